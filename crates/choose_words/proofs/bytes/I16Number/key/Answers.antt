use Rattle.std.proofs.Common.{ℕ, ◌+◌, ◌*◌, ◌^◌, ◌<◌, ◌≤◌, w16, arith}
use lib.Dec.{lit<}
use mir.Val.{hbits}
use Rattle.rules_choosing.proofs.Wide.{product_fits, key_fits, key_is}
use Rattle.choose_words.proofs.bytes.I16Number.key.Goals as goal

room : (w : ℕ) → w ≤ 4 → 4 * w * 1408 + 4 * w < 2 ^ hbits w16
room w l = omega arith

pub overflow_mul-m-2 : goal.overflow_mul-m-2
overflow_mul-m-2 c =
    product_fits w16 1408 _ _ _ (lit< tt) (room _ c.requires.0) c.requires.1 c.requires.2

pub overflow_add-result : goal.overflow_add-result
overflow_add-result c =
    key_fits w16 1408 _ _ _ (lit< tt) (room _ c.requires.0) c.requires.1 c.requires.2 c.abs.ensures.value

pub returns : goal.returns
returns c =
    key_is w16 1408 _ _ _ (lit< tt) (room _ c.requires.0) c.requires.1 c.requires.2 c.abs.ensures.value
