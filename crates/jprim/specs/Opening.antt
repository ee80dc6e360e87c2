-- Which verbs open (NuVoc, the pages of "t." and "T."): a verb that needs the values in its arguments opens every pyx in them
-- before it looks at them; a verb that only moves atoms leaves pyxes alone.
use Rattle.std.specs.Prelude.{Bool, true, false, if◌then◌else◌}
use Rattle.jdata.specs.declared.primitive.Primitive.{Primitive}
use Rattle.jdata.specs.declared.primitive.Primitive.TheVariants.{Equal, Greater, MinusDot, MinusColon, TildeDot, TildeColon, Semicolon, LeftBrace, LeftBraceColonColon, QuoteColon, EDot, IDot, IColon, CapitalLDot}

-- with one argument: those that match items, look into boxes, or show
unfoldable pub one_opens : Primitive → Bool
one_opens Equal = true
one_opens TildeDot = true
one_opens TildeColon = true
one_opens Greater = true
one_opens Semicolon = true
one_opens CapitalLDot = true
one_opens QuoteColon = true
one_opens other = false

-- with two: those that match atoms or items, or look into boxes; of { the left argument alone
unfoldable pub two_open : Primitive → Bool
two_open Equal = true
two_open TildeColon = true
two_open MinusDot = true
two_open MinusColon = true
two_open LeftBrace = true
two_open LeftBraceColonColon = true
two_open IDot = true
two_open IColon = true
two_open EDot = true
two_open other = false

abbrev pub opens : Primitive → Bool → Bool
opens verb dyadic = if dyadic then two_open verb else one_opens verb
