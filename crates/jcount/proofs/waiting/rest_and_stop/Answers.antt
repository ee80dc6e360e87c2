use Rattle.jcount.proofs.Crossing.{counters_cross}
use Rattle.jcount.proofs.waiting.rest_and_stop.Goals as goal

pub join-requires-send-F : goal.join-requires-send-F
join-requires-send-F g c κs within = search counters_cross depth 20

pub join-requires-send-A : goal.join-requires-send-A
join-requires-send-A g c κs within = search counters_cross depth 20
