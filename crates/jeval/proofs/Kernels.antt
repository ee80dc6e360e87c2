-- What a kernel gave is what an evaluation answers.
use Rattle.std.proofs.Common.{refl, Result, Ok, Err}
use Rattle.jarray.specs.Placed.{Placed, Gives}
use Rattle.jdata.specs.declared.fault.Fault.{Fault}
use Rattle.jdata.specs.declared.fault.Trouble.{Trouble}
use Rattle.jdata.specs.declared.fault.Trouble.TheVariants as trouble
use Rattle.jdata.specs.declared.noun.Noun.{Noun}
use Rattle.jeval.specs.declared.end.EvalEnd.{EvalEnd}
use Rattle.jeval.specs.Made.{Answers, Ends}

pub ended_answers : (meant : Result Noun Fault) (given : Result Placed Trouble) (result : Result Noun EvalEnd) → Gives meant given → Ends given result → Answers meant result
ended_answers meant (Ok a) result h is = rw is h
ended_answers meant (Err (trouble.Fault fault)) result h is = rw is h
ended_answers meant (Err trouble.NoMemory) result h is = rw is refl
