use Rattle.std.proofs.Common.{ℕ, ◌+◌, ◌*◌, ◌^◌, ◌<◌, ◌≤◌, ap, w32, ℤ, arith}
use lib.Dec.{lit<}
use lib.Ieee.{binary32, of_int}
use mir.Val.{hbits}
use Rattle.base.specs.Whole.{Within}
use Rattle.rules_choosing.specs.Keys.{key_of}
use Rattle.rules_choosing.proofs.Wide.{product_fits, key_fits, key_is, key_small}
use Rattle.choose_words.proofs.Floats.{may_float}
use Rattle.choose_words.proofs.counts.I32Number.key.Goals as goal

room : (w : ℕ) → w ≤ 4 → 4 * w * 90112 + 4 * w < 2 ^ hbits w32
room w l = omega arith

-- an f32 has room for it
few : (w n : ℕ) (s : ℤ) → w ≤ 4 → Within 90112 s → key_of (w + w) n s < 8388608
few w n s l h = omega (arith, key_small (w + w) n s h)

pub overflow_mul-m-2 : goal.overflow_mul-m-2
overflow_mul-m-2 c =
    product_fits w32 90112 _ _ _ (lit< tt) (room _ c.requires.0) c.requires.1 c.requires.2

pub overflow_add-key : goal.overflow_add-key
overflow_add-key c =
    key_fits w32 90112 _ _ _ (lit< tt) (room _ c.requires.0) c.requires.1 c.requires.2 c.abs.ensures.value

pub int_to_float-result : goal.int_to_float-result
int_to_float-result c =
    let r = c.requires in
    rw (key_is w32 90112 _ _ _ (lit< tt) (room _ r.0) r.1 r.2 c.abs.ensures.value)
    (may_float _ (few c.args.w c.args.n c.args.self r.0 r.1))

pub returns : goal.returns
returns c =
    let r = c.requires in (
      ap (of_int binary32) (key_is w32 90112 _ _ _ (lit< tt) (room _ r.0) r.1 r.2 c.abs.ensures.value),
      few c.args.w c.args.n c.args.self r.0 r.1,
    )
