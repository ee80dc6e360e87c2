-- A `&` to a table holds each block's invariant and a share of its token. Assumes `Logic`.
use denote.RattleType.{RattleType}
use denote.Param.Laws.{Laws}
use denote.Param.Shared.{copy_shared}
use denote.Struct.Field.{RawPtr-field}
use denote.Struct.Laws.{RawPtr-copy}
use denote.Struct.Lending.{of_Lends}
use Rattle.jyard.specs.contracts.table.Table as C
use Rattle.jyard.proofs.table.Table.TheLaw.Statement.{statement}
use Rattle.jyard.proofs.Laws.{table_laws, Lends-table}

pub shares : (T : RattleType) (L : Laws T) → statement T L
shares T L = of_Lends (C.struct T) (C.the_codes T.Denot T.coded) (C.the_heap T) (C.the_lent T)
    (λ d p. table_laws T d.cells d.words d.empty d.ids) (copy_shared RawPtr-field RawPtr-copy, (copy_shared RawPtr-field RawPtr-copy, tt))
    (λ M 𝓤 𝓛 d p. Lends-table T d.cells d.words d.empty 𝓛 (C.the_row T).lives d.ids)
