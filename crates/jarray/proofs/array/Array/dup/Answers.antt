use Rattle.jarray.proofs.array.Array.dup.Goals as goal

pub returns-in-Err-clause-alone : goal.returns-in-Err-clause-alone
returns-in-Err-clause-alone c = λ n e. absurd (c.in_default.ensures.none n e)
