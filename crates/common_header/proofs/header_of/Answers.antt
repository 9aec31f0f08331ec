-- `header_of`: at each return the tests before it were passed and its own failed, and the fields are cut out of the
-- header's octets.
use Prim.Native.Nat.{ℕ}
use lib.ListN.{get_or}
use mir.Syntax.{w8}
use mir.Val.{Fits}
use borrow.Author.Rules.{rules}
use Rattle.base.specs.Below.{Below}
use Rattle.rules_calls.specs.Headers.{header_of}
use Rattle.rules_calls.proofs.Fields.{fields_cut}
use Rattle.base.proofs.Tests.{failed, passed}
use Rattle.std.specs.Prelude.{ℕ, List}
use Rattle.common_header.proofs.header_of.Goals as goal

pub returns-then-not-sfd_right : goal.returns-then-not-sfd_right
unfolding header_of
returns-then-not-sfd_right c = record { answer = rw (failed c.sfd_right.ensures.answer c.if-not-sfd_right.true) }

pub returns-then-not-crc_right : goal.returns-then-not-crc_right
unfolding header_of
returns-then-not-crc_right c = record {
  answer = rw (
    passed c.sfd_right.ensures.answer c.if-not-sfd_right.false,
    failed c.crc_right.ensures.answer c.if-not-crc_right.true,
  );
}

-- the header is six octets
octets : (h : List ℕ) → ((i : ℕ) → Fits w8 (get_or h i 0)) → Below 256 h
octets h f = record { at = λ i. (f i).fits }

pub returns : goal.returns
unfolding header_of
returns c = record {
  answer = rw (
    passed c.sfd_right.ensures.answer c.if-not-sfd_right.false,
    passed c.crc_right.ensures.answer c.if-not-crc_right.false,
  )
      (fields_cut _ _ _ (search rules) (octets _ (search rules)) _ _ c.both.ensures.answer.0 c.fields_of.ensures.answer);
}
