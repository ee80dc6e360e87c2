use Rattle.jcount.proofs.Crossing.{counters_cross}
use Rattle.jcount.proofs.waiting.rest_workers.Goals as goal

pub map_vec-requires-send-J : goal.map_vec-requires-send-J
map_vec-requires-send-J g c κs within = search counters_cross depth 20

pub map_vec-requires-send-X : goal.map_vec-requires-send-X
map_vec-requires-send-X g c κs within = search counters_cross depth 20

pub map_vec-requires-sync-F : goal.map_vec-requires-sync-F
map_vec-requires-sync-F g c κs within = search counters_cross depth 20
