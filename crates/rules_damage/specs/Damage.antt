-- How a hard recording of a frame was spoiled (RULES 3.10, 6.28): the wrong and the lost chips of each of its symbols.
-- An octet above 4 is neither: it is unusable. Definitions only. Assumes nothing.
use Rattle.std.specs.Prelude.{ℕ, zero, suc, ◌+◌, ◌*◌, Bool, cond, not, ◌&&◌, List, [], ◌∷◌, ◌++◌, take, drop, eqb}
use Rattle.rules_rates.specs.declared.Rate.{Rate}
use Rattle.rules_rates.specs.declared.Rate.TheVariants.{One}
use Rattle.rules_rates.specs.Rates.{symbol_chips, octet_symbols}
use Rattle.rules_frame.specs.declared.Kind.{Kind}
use Rattle.rules_frame.specs.Frame.{front_chips, front_symbols, is_phase}

-- a chip sent as phase p and recorded as octet x: wrong where it is another phase, lost where it is a 4
abbrev pub is_wrong : ℕ → ℕ → Bool
is_wrong p x = is_phase x && not (eqb x p)

abbrev pub is_lost : ℕ → Bool
is_lost x = eqb x 4

-- how many of the chips recorded are wrong, beside those sent; and how many are lost
unfoldable pub wrong : List ℕ → List ℕ → ℕ
wrong [] xs = 0
wrong (p ∷ ps) [] = 0
wrong (p ∷ ps) (x ∷ xs) = cond (is_wrong p x) 1 0 + wrong ps xs

unfoldable pub lost : List ℕ → ℕ
lost [] = 0
lost (x ∷ xs) = cond (is_lost x) 1 0 + lost xs

-- of m symbols of c chips each: two numbers a symbol, its wrong chips and its lost ones
unfoldable pub damage : ℕ → ℕ → List ℕ → List ℕ → List ℕ
damage c zero sent rec = []
damage c (suc m) sent rec =
    wrong (take c sent) (take c rec) ∷ lost (take c rec) ∷ damage c m (drop c sent) (drop c rec)

-- and of all symbols of a frame of n octets, those of its front first
unfoldable pub frame_damage : Kind → Rate → ℕ → List ℕ → List ℕ → List ℕ
frame_damage k r n sent rec =
    damage (symbol_chips One) (front_symbols k) sent rec
    ++ damage (symbol_chips r) (octet_symbols r * n) (drop (front_chips k) sent) (drop (front_chips k) rec)
