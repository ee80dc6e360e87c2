-- Which further lines a sentence takes (NuVoc, ":", "Explicit definition" and "Noun definition"; "Direct Definition").
use Rattle.std.specs.Prelude.{ℕ, zero, suc, ℤ, pos, negsuc, ◌+◌, ◌==◌, ◌&&◌, ◌||◌, nat_lt, Bool, false, if◌then◌else◌, List, [], ◌∷◌, codes}
use Rattle.std.specs.Str.{bytes_eq}
use Rattle.jnumber.specs.Spelling.{number_in}
use Rattle.jwords.specs.Numbers.{is_number}
use Rattle.jwords.specs.declared.word.Word.{Word}
use Rattle.jexplicit.specs.Parting.{depth_after, role_of, written}
use Rattle.jexplicit.specs.declared.taking.Need.{Need}
use Rattle.jexplicit.specs.declared.taking.Need.TheVariants as need

abbrev pub is_pos : ℕ → ℤ → Bool
is_pos n (pos m) = m == n
is_pos n (negsuc m) = false

-- the run spells this number
abbrev pub is_value : ℕ → List ℕ → Bool
is_value n run = is_number run && is_pos n (number_in run)

-- `0`, `3` or `4`
abbrev pub takes_lines : List ℕ → Bool
takes_lines run = is_value 0 run || (is_value 3 run || is_value 4 run)

-- these words begin with `0 : 0`, `3 : 0` or `4 : 0`, by the value of the two numbers
abbrev pub begins_body : List ℕ → List Word → Bool
begins_body line (left ∷ colon ∷ right ∷ rest) =
    takes_lines (written line left) && (bytes_eq (written line colon) (codes ":") && is_value 0 (written line right))
begins_body line _ = false

-- how many bodies the words take, from left to right; those in a pair take none. So many of the first words belong to
-- one that was counted already
abbrev pub bodies : List ℕ → List Word → ℕ → ℕ → ℕ
bodies line [] depth counted = 0
bodies line (w ∷ ws) depth (suc counted) = bodies line ws depth counted
bodies line (w ∷ ws) depth zero =
    if depth == 0 && begins_body line (w ∷ ws) then 1 + bodies line ws depth 2 else bodies line ws (depth_after (role_of line w) depth) 0

-- how many pairs are open behind the words
abbrev pub open_behind : List ℕ → List Word → ℕ → ℕ
open_behind line [] depth = depth
open_behind line (w ∷ ws) depth = open_behind line ws (depth_after (role_of line w) depth)

-- the lines up to a brace come first
abbrev pub need_by : ℕ → ℕ → Need
need_by depth count = if nat_lt 0 depth then need.Brace depth else if nat_lt 0 count then need.Lines count else need.Nothing

abbrev pub need_of : List Word → List ℕ → Need
need_of words line = need_by (open_behind line words 0) (bodies line words 0 0)
