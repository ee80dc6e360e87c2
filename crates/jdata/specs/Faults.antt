-- Faults, by number and by the words that are printed. Those with a number of the J Dictionary's error list keep its words.
use Rattle.std.specs.Prelude.{ℕ, List, codes}
use Rattle.jdata.specs.declared.fault.Fault.{Fault}
use Rattle.jdata.specs.declared.fault.Fault.TheVariants as fault

abbrev pub number_of : Fault → ℕ
number_of fault.Domain = 1
number_of fault.Length = 2
number_of fault.Rank = 3
number_of fault.Index = 4
number_of fault.Syntax = 5
number_of fault.Value = 6
number_of fault.Spelling = 7
number_of fault.Control = 8
number_of fault.Nonce = 9
number_of fault.Limit = 10
number_of fault.Stack = 11
number_of fault.TimeLimit = 12
number_of fault.Locale = 13
number_of fault.Concurrency = 14
number_of fault.Assertion = 15
number_of fault.OpenQuote = 16
number_of fault.IllFormed = 17

abbrev pub text_of : Fault → List ℕ
text_of fault.Domain = codes "domain error"
text_of fault.Length = codes "length error"
text_of fault.Rank = codes "rank error"
text_of fault.Index = codes "index error"
text_of fault.Syntax = codes "syntax error"
text_of fault.Value = codes "value error"
text_of fault.Spelling = codes "spelling error"
text_of fault.Control = codes "control error"
text_of fault.Nonce = codes "nonce error"
text_of fault.Limit = codes "limit error"
text_of fault.Stack = codes "stack error"
text_of fault.TimeLimit = codes "time limit"
text_of fault.Locale = codes "locale error"
text_of fault.Concurrency = codes "concurrency error"
text_of fault.Assertion = codes "assertion failure"
text_of fault.OpenQuote = codes "open quote"
text_of fault.IllFormed = codes "ill-formed number"
