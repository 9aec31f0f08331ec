-- The frame's three parts as octets: the preamble's octets, and what stands between two parts.
-- Definitions only. Assumes nothing.
-- working notion: of the code that writes a frame; no promise needs it
use Rattle.std.specs.Prelude.{ℕ, List, [], ◌∷◌, ◌++◌, replicate}
use Rattle.rules_rates.specs.declared.Rate.TheVariants.{One}
use Rattle.rules_frame.specs.declared.Kind.{Kind}
use Rattle.rules_frame.specs.declared.Kind.TheVariants.{Long, Short}
use Rattle.rules_frame.specs.Frame.{start, header_rate}
use Rattle.write_octets.specs.Sending.{State, run, ran}

-- SYNC and SFD as octets
unfoldable pub preamble_octets : Kind → List ℕ
preamble_octets Long = replicate 16 255 ++ 0xA0 ∷ 0xF3 ∷ []
preamble_octets Short = replicate 7 0 ++ 0xCF ∷ 0x05 ∷ []

-- before the first bit: the scrambler's start, and an eighth output that nothing depends on
unfoldable pub first_state : Kind → ℕ → State
first_state k p = record { past = start k ++ 0 ∷ []; phase = p }

-- after the preamble, at the header's start
unfoldable pub after_preamble : Kind → ℕ → State
after_preamble k p = ran One 0 (first_state k p) (preamble_octets k)

-- the chips of the preamble and of a header of six octets, and what stands after them, at the payload's start
unfoldable pub front_sent : Kind → ℕ → List ℕ → List ℕ
front_sent k p h = run One 0 (first_state k p) (preamble_octets k) ++ run (header_rate k) 0 (after_preamble k p) h

unfoldable pub after_front : Kind → ℕ → List ℕ → State
after_front k p h = ran (header_rate k) 0 (after_preamble k p) h
