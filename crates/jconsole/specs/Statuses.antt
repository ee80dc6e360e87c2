-- What the program tells of a session's end: its exit status, and what stands on standard error behind its name.
use Rattle.std.specs.Prelude.{ℕ, List, codes, Option, Some, None}
use Rattle.jsession.specs.declared.status.Status.{Status}
use Rattle.jsession.specs.declared.status.Status.TheVariants as status

abbrev pub exit_code_of : Status → ℕ
exit_code_of status.Done = 0
exit_code_of status.Usage = 1
exit_code_of status.ReadFault = 2
exit_code_of status.WriteFault = 3
exit_code_of status.NoMemory = 4
exit_code_of status.TooLong = 7

abbrev pub message_of : Status → Option (List ℕ)
message_of status.Done = None
message_of status.Usage = Some (codes "usage")
message_of status.ReadFault = Some (codes "read fault")
message_of status.WriteFault = Some (codes "write fault")
message_of status.NoMemory = Some (codes "no memory")
message_of status.TooLong = Some (codes "script too long")
