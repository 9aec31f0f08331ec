-- What is promised of the store's calls is kept, by every program that meets their contracts.
-- Assumes nothing.
use mathlib.Core.Path.{◌≡◌, sym, ap, ◌∙◌, subst}
use mathlib.Core.Logic.{◌⊎◌, inl, inr}
use mathlib.Core.List.{List}
use Prim.Native.Nat.{ℕ}
use lib.ListN.{length, take}
use Rattle.rules_calls.specs.declared.Written.{Written}
use Rattle.rules_store.specs.declared.Settings.{Settings}
use Rattle.rules_store.specs.Store.{no_settings, settings, store_read}
use Rattle.rules_store.specs.Pieces.{laid_out}
use Rattle.rules_store.specs.Plain.{Writes, Changed, Changes}
use Rattle.rules_store.proofs.Laying.{version_back, laid_octets, laid_most, tags_back, bodies_back}
use Rattle.rules_store.proofs.Old.{old_reads, old_refuses, old_either}
use Rattle.rules_store.proofs.OneChanged.{change_reads, change_refused}
use Rattle.rules_store.proofs.Told.{told_allowed}
use Rattle.rules_store.proofs.Written.{writes_are, are_writes, left_read, left_longer}
use Rattle.rules_store.proofs.Changing.{changes_are, are_changes}
use Rattle.promises_store.specs.Promises.{
  WriteTells,
  StoreReadBack,
  ChangeTells,
  ChangeTouches,
  LaidBack,
  OldReaders,
  StoreServes,
  OneStore,
  StorePromised,
}
use Rattle.promises_store.proofs.Table.{read_tells, store_largest}
use Rattle.promises_store.proofs.Serves.{serves, same_refused}

write_tells : WriteTells
write_tells kind rate phase room number left w = (
  subst (λ (x : ℕ × List ℕ). Writes kind rate phase room x.0 x.1)
      (λ i. (sym w.answer i, sym w.octets i)) (writes_are kind rate phase room),
  λ m l v. let e = are_writes kind rate phase room v in (e.0 ∙ sym w.answer, e.1 ∙ sym w.octets),
)

store_read_back : StoreReadBack
store_read_back kind rate phase room number left g h w = (
  λ s r. r.answer ∙ ap (λ (l : List ℕ). store_read (take 17 l)) w.octets ∙ left_read kind rate phase room g h,
  λ m s a b r. r.answer ∙ ap (λ (l : List ℕ). store_read (take m l)) w.octets
      ∙ left_longer kind rate phase room g h m a b,
)

change_tells : ChangeTells
change_tells octets tag value number left c = (
  subst (λ (x : ℕ × List ℕ). Changes octets tag value x.0 x.1)
      (λ i. (sym c.answer i, sym c.octets i)) (changes_are octets tag value),
  λ m l v. let e = are_changes octets tag value v in (e.0 ∙ sym c.answer, e.1 ∙ sym c.octets),
)

change_touches : ChangeTouches
change_touches octets tag value number left c = (
  λ n. c.octets ∙ change_refused octets tag value (λ z. n (c.answer ∙ z)),
  λ z s t r u.
      subst (λ (x : Settings × Settings). Changed value tag x.0 x.1)
      (λ i. (sym r.answer i, sym (u.answer ∙ ap store_read c.octets) i))
      (change_reads octets tag value (sym c.answer ∙ z)),
)

laid_back : LaidBack
laid_back version ps v w = (
  laid_octets version ps v w,
  laid_most version ps w,
  tags_back version ps,
  bodies_back version ps,
  version_back version ps,
)

old_readers : OldReaders
old_readers version ps w s r = (
  λ p m h. r.answer ∙ old_refuses version ps w.few w.rises p m h,
  λ kind rate phase t. (
    λ below. r.answer ∙ old_reads version ps w.few w.rises kind rate phase t below,
    by kind rate phase (old_either version ps w.few w.rises kind rate phase t),
  ),
)
  where
    by : (kind rate phase : ℕ)
        → (store_read (laid_out version ps) ≡ settings kind rate phase)
        ⊎ (store_read (laid_out version ps) ≡ no_settings 25)
        → (s ≡ settings kind rate phase) ⊎ (s ≡ no_settings 25)
    by kind rate phase (inl e) = inl (r.answer ∙ e)
    by kind rate phase (inr e) = inr (r.answer ∙ e)

store_serves : StoreServes
store_serves clock payload room w chips some few = (
  λ octets s r z v.
      let t =
      serves s.kind s.rate s.phase (length payload) room some few
      (told_allowed octets (read_tells octets s r).0 z) in
      record {
        front = t.front;
        octet = t.octet;
        goes = t.goes;
        good = λ h. ap (λ (x : Written). x.number) v.answer ∙ t.good h;
      },
  λ kind rate phase held number left t v.
      rw (t.answer, v.answer) (same_refused kind rate phase (length payload) room some few held),
)

one_store : OneStore
one_store = (
  λ kind rate phase room m n k l v w. (v.answer ∙ sym w.answer, v.octets ∙ sym w.octets),
  λ octets s t v w. v.answer ∙ sym w.answer,
  λ octets tag value m n k l v w. (v.answer ∙ sym w.answer, v.octets ∙ sym w.octets),
)

pub kept : StorePromised
kept = record {
  read_tells = read_tells;
  write_tells = write_tells;
  store_read_back = store_read_back;
  change_tells = change_tells;
  change_touches = change_touches;
  laid_back = laid_back;
  old_readers = old_readers;
  store_largest = store_largest;
  store_serves = store_serves;
  one_store = one_store;
}
