-- The blocks of a definition's body, as J Dictionary, "Control Structures", has them. Each control word and each
-- sentence has its number. The block's rest stands last, so a block is read from its front.
use Rattle.std.specs.Prelude.{ℕ, Bool}

mutual
  pub data Block : Type 0 where
    -- the block ends
    Nothing : Block
    -- a sentence, or a group, and what follows it
    Sentence : (number : ℕ) → Block → Block
    -- `if. test do. block else. otherwise end.`; an `elseif.` is an `if.` in what is done otherwise
    If : (word : ℕ) → (test block otherwise : Block) → Block → Block
    -- `while. test do. block end.`, or `whilst.`, which skips its first test
    While : (word : ℕ) → (skips : Bool) → (test block : Block) → Block → Block
    -- `for. test do. block end.`, or `for_i.`
    For : (word : ℕ) → (test block : Block) → Block → Block
    Select : (word : ℕ) → (test : Block) → Cases → Block → Block
    -- `try. block catch. caught end.`
    Try : (block caught : Block) → Block → Block
    -- `assert. test`
    Assert : (word : ℕ) → (test : Block) → Block → Block
    Break : Block → Block
    Continue : Block → Block
    -- `return.`
    Leave : Block → Block

  -- the cases of a `select.`: one by `fcase.` falls, which is that the block after it is run too
  pub data Cases : Type 0 where
    NoCase : Cases
    Case : (word : ℕ) → (test block : Block) → (falls : Bool) → Cases → Cases
    -- a case with an empty test
    Always : (block : Block) → (falls : Bool) → Cases → Cases
