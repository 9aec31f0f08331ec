-- What a read of a store answers, in plain numbers, and what it answers of octets longer than the largest store.
-- Assumes nothing.
use mathlib.Core.Path.{◌≡◌, sym, ◌∙◌, subst}
use mathlib.Core.Logic.{◌⊎◌}
use Rattle.rules_store.specs.declared.Settings.{Settings}
use Rattle.rules_store.specs.Store.{no_settings}
use Rattle.rules_store.specs.Plain.{StoreTells}
use Rattle.rules_store.proofs.Told.{tells_is, read_row}
use Rattle.rules_store.proofs.Largest.{largest}
use Rattle.promises_store.specs.Promises.{ReadTells, StoreLargest}

pub read_tells : ReadTells
read_tells octets s r = (
  subst (StoreTells octets) (sym r.answer) (read_row octets),
  λ t row. tells_is octets row ∙ sym r.answer,
)

pub store_largest : StoreLargest
store_largest octets s b long r =
    subst (λ (t : Settings). (t ≡ no_settings 22) ⊎ ((t ≡ no_settings 23) ⊎ (t ≡ no_settings 24))) (sym r.answer)
    (largest octets b long)
