-- Words that are read are prepared as the blocks of a text that they spell.
use Rattle.std.proofs.Common.{ℕ, ◌≡◌, List, [], true}
use Rattle.jcontrol.specs.Machine.{IsSound}
use Rattle.jexplicit.specs.declared.kind.Kind.{Kind}
use Rattle.jexplicit.specs.Blocks.{block_of}
use Rattle.jexplicit.specs.Reading.{reads}
use Rattle.jexplicit.specs.Preparing.{IsPrepared, prepares}
use Rattle.jexplicit.proofs.Laying.{agrees}
use Rattle.jexplicit.proofs.Inside.{sound}

pub prepared : (i : ℕ) (kinds : List Kind) → reads kinds [] ≡ true → IsPrepared i kinds (prepares i kinds)
prepared i kinds h = let (text, q, placed, spelled, len, first, l, last) = agrees i kinds h in (text, placed, spelled, (q, first, l, last))

pub prepared_soundly : (i : ℕ) (kinds : List Kind) → reads kinds [] ≡ true → IsSound (prepares i kinds)
prepared_soundly i kinds h = let (text, q, placed, spelled, len, first, l, last) = agrees i kinds h in sound (prepares i kinds) (block_of i text) q len first l last
