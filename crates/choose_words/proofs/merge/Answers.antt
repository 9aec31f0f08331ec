use Rattle.std.proofs.Common.{◌∙◌}
use Rattle.rules_choosing.specs.Keys.{bigger, lesser}
use Rattle.choose_sums.proofs.KeyTops.{two_merge}
use Rattle.choose_words.proofs.merge.Goals as goal

pub returns : goal.returns
returns g c =
    let n = g.T.Number in
    record {
      is = (
        c.larger.ensures.is,
        c.larger-2.ensures.is ∙ (λ i. n.larger_of (c.smaller-low.ensures.is i) (c.larger-other.ensures.is i)),
      );
      two = λ k m n l t u. record {
        x = bigger t.x u.x;
        y = bigger (lesser t.x u.x) (bigger t.y u.y);
        is_x = c.larger.ensures.holds _ _ t.is_x u.is_x;
        is_y = c.larger-2.ensures.holds _ _ (c.smaller-low.ensures.holds _ _ t.is_x u.is_x)
            (c.larger-other.ensures.holds _ _ t.is_y u.is_y);
        two = two_merge t.two u.two;
      };
    }
