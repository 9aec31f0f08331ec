-- The rates that a guide of 1997 knows, in plain numbers (RULES 6.30); `of1997` of Headers.antt is what its reading
-- goes by, and proofs/Guides.antt joins the two.
-- Definitions only. Assumes nothing.
use Rattle.std.specs.Prelude.{ℕ}

pub data Rate1997 : ℕ → Type 0 where
  at_1 : Rate1997 10
  at_2 : Rate1997 20
