-- Writes, computed from the definition and compared with what RULES 6.1 and 6.4 say of each: the answer for every kind
-- and rate, every refusal at its limit, every two neighbours that can be met together, and the chip buffer after
-- good and refused writes. Assumes nothing.
use mathlib.Core.Path.{◌≡◌, refl}
use mathlib.Core.Bool.{true, false}
use mathlib.Core.List.{List, [], ◌∷◌, ◌++◌}
use Prim.Native.Nat.{ℕ, ◌^◌}
use Rattle.rules_rates.specs.declared.Rate.TheVariants.{Two, Eleven}
use Rattle.rules_frame.specs.declared.Kind.TheVariants.{Long, Short}
use Rattle.rules_frame.specs.Frame.{frame}
use Rattle.rules_calls.specs.declared.Written.{Written}
use Rattle.rules_calls.specs.Answers.{written_of}
use Rattle.rules_calls.specs.Writing.{writing_of, chips_written}

-- the answer to kind, rate code and starting phase, n octets, and room for so many chips
abbrev write : ℕ → ℕ → ℕ → ℕ → ℕ → Written
write kind rate phase n room = written_of (writing_of kind rate phase n room)

abbrev chips : ℕ → ℕ → ℕ → ℕ → ℕ → List ℕ
chips kind rate phase n room =
    (write kind rate phase n room).number ∷ (write kind rate phase n room).chips ∷ []

abbrev refusal : ℕ → ℕ → ℕ → ℕ → ℕ → ℕ
refusal kind rate phase n room = (write kind rate phase n room).number

-- good: one octet with just the room, every kind and rate; most octets; and a refusal tells no chips
pub good : chips 0 10 0 1 2200 ∷ chips 0 20 1 1 2156 ∷ chips 0 55 2 1 2128 ∷ chips 0 110 3 1 2120
    ∷ chips 1 20 0 1 1100 ∷ chips 1 55 0 1 1072 ∷ chips 1 110 0 1 1064
    ∷ chips 0 10 3 4095 362472 ∷ chips 1 110 3 4095 400000 ∷ chips 0 10 0 1 2199 ∷ []
    ≡ (0 ∷ 2200 ∷ []) ∷ (0 ∷ 2156 ∷ []) ∷ (0 ∷ 2128 ∷ []) ∷ (0 ∷ 2120 ∷ [])
    ∷ (0 ∷ 1100 ∷ []) ∷ (0 ∷ 1072 ∷ []) ∷ (0 ∷ 1064 ∷ [])
    ∷ (0 ∷ 362472 ∷ []) ∷ (0 ∷ 33816 ∷ []) ∷ (6 ∷ 0 ∷ []) ∷ []
unfolding writing_of
good = refl

-- each refusal alone, at its limits: kind 2 and 256; rate 21 and 0; rate 10 and short; 0 and 4,096 octets; phase 4;
-- one chip too little room
pub alone : refusal 2 20 0 1 9999 ∷ refusal 256 20 0 1 9999 ∷ refusal 0 21 0 1 9999 ∷ refusal 1 0 0 1 9999
    ∷ refusal 1 10 0 1 9999 ∷ refusal 0 20 0 0 9999 ∷ refusal 0 20 0 4096 999999 ∷ refusal 0 20 4 1 9999
    ∷ refusal 0 20 0 1 2155 ∷ refusal 1 110 0 4095 33815 ∷ []
    ≡ 1 ∷ 1 ∷ 2 ∷ 2 ∷ 3 ∷ 4 ∷ 4 ∷ 5 ∷ 6 ∷ 6 ∷ []
unfolding writing_of
alone = refl

-- two that hold together, the earlier one given: 1 and 2; 1 and 3 (no kind, rate 10); 2 and 4; 3 and 4; 4 and 5;
-- 5 and 6; 4 and 6. Never do 2 and 3 hold together
pub together : refusal 2 21 0 1 9999 ∷ refusal 2 10 0 1 9999 ∷ refusal 0 21 0 0 9999 ∷ refusal 1 10 0 0 9999
    ∷ refusal 0 20 4 0 9999 ∷ refusal 0 20 4 1 0 ∷ refusal 0 20 0 4096 0 ∷ []
    ≡ 1 ∷ 1 ∷ 2 ∷ 3 ∷ 4 ∷ 5 ∷ 4 ∷ []
unfolding writing_of
together = refl

-- refused, the chip buffer is 4s, the whole of it
pub left : chips_written 2 20 0 0 (7 ∷ []) 3 ∷ chips_written 0 20 0 0 (7 ∷ []) 5 ∷ chips_written 0 20 0 1 (7 ∷ []) 2 ∷ []
    ≡ (4 ∷ 4 ∷ 4 ∷ []) ∷ (4 ∷ 4 ∷ 4 ∷ 4 ∷ 4 ∷ []) ∷ (4 ∷ 4 ∷ []) ∷ []
unfolding chips_written writing_of
left = refl

-- good, it is the frame from the starting phase, and 4s after it; the clock bit is set for any number but 0
pub kept : chips_written 0 20 1 0 (7 ∷ []) 2158 ∷ chips_written 1 110 3 0 (7 ∷ []) 1064
    ∷ chips_written 0 20 1 1 (7 ∷ []) 2158 ∷ chips_written 1 110 3 256 (7 ∷ []) 1064
    ∷ chips_written 1 110 3 (2 ^ 40) (7 ∷ []) 1064 ∷ []
    ≡ (frame Long Two 1 false (7 ∷ []) ++ (4 ∷ 4 ∷ [])) ∷ (frame Short Eleven 3 false (7 ∷ []) ++ [])
    ∷ (frame Long Two 1 true (7 ∷ []) ++ (4 ∷ 4 ∷ [])) ∷ (frame Short Eleven 3 true (7 ∷ []) ++ [])
    ∷ (frame Short Eleven 3 true (7 ∷ []) ++ []) ∷ []
unfolding chips_written writing_of
kept = refl
