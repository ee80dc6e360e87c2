use Rattle.std.proofs.Common.{rules, arith, ◌≡◌, ◌<◌, ◌∷◌, ◌+◌, [], ℕ, List, length, drop, get_or, sym, ◌∙◌, ap, subst}
use Rattle.std.proofs.lemmas.List.{drop_more}
use Rattle.jwords.specs.Alphabet.{quote}
use Rattle.jwords.specs.Texts.{IsQuoted}
use Rattle.jwords.proofs.QuotedTexts.{from_second}
use Rattle.jwords.proofs.quoting.quoted_length.Goals as goal

pub returns-in-None-clause-none : goal.returns-in-None-clause-none
returns-in-None-clause-none c = λ size q.
    c.in-None.ensures.none size (subst (λ (bytes : List ℕ). IsQuoted bytes size) (from_second c.args.bytes.now c.requires.some c.requires.quoted) q)

pub returns-in-Some-clause-some : goal.returns-in-Some-clause-some
returns-in-Some-clause-some c =
    subst (λ (bytes : List ℕ). IsQuoted bytes (c.in-Some.size + 1)) (sym (from_second c.args.bytes.now c.requires.some c.requires.quoted)) c.in-Some.ensures.some
