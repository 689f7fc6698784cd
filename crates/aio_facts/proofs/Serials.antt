-- The live sources of a world by key and by serial.
use Rattle.std.proofs.Common.{◌≡◌, ◌≢◌, ℕ, ◌≤◌, false, ◌==◌, nat_eq, List, [], ◌∷◌, map, find, Option, None, Some, option_map, refl, sym, ap, ◌∙◌, subst, arith, ⊎_elim}
use Rattle.std.specs.List.{AllByRecursion, Contains, IsDistinct}
use Rattle.std.proofs.lemmas.Bool.{false≢true, eq-eqb, eqb-true}
use Rattle.std.proofs.lemmas.List.Elements.{All-contains}
use Rattle.std.proofs.lemmas.Map.Keys.{IsDistinct-head, IsDistinct-tail}
use Rattle.aio_base.specs.World.{LiveSource}
use Rattle.aio_base.proofs.Membership.{none_is_in, among_cases, found_is_in, image_is_in}
use Rattle.aio_facts.specs.Facts.{serial_in}
use Rattle.aio_facts.specs.Sound.{LiveSound}

later_apart : (n m : ℕ) (serials : List ℕ) → AllByRecursion (λ k. nat_eq n k ≡ false) serials → Contains serials m → nat_eq n m ≡ false
later_apart n m [] apart among = none_is_in m among
later_apart n m (k ∷ serials) apart among =
    ⊎_elim (λ (here : k ≡ m). subst (λ k. nat_eq n k ≡ false) here apart.0) (λ (later : Contains serials m). later_apart n m serials apart.1 later) (among_cases k serials m among)

pub differs : (serials : List ℕ) (n m : ℕ) → IsDistinct nat_eq (n ∷ serials) → Contains serials m → n ≢ m
differs serials n m distinct among same = false≢true (sym (later_apart n m serials (IsDistinct-head nat_eq n serials distinct) among) ∙ eq-eqb n m same)

pub same_source : (live : List LiveSource) (a b : LiveSource) → IsDistinct nat_eq (map (λ (s : LiveSource). s.serial) live) → Contains live a → Contains live b → a.serial ≡ b.serial → a.key ≡ b.key
same_source [] a b distinct first second same = none_is_in a first
same_source (s ∷ live) a b distinct first second same =
    let serial : LiveSource → ℕ = λ (s : LiveSource). s.serial in
    ⊎_elim
    (λ (here : s ≡ a). ⊎_elim
    (λ (there : s ≡ b). ap (λ (s : LiveSource). s.key) (sym here ∙ there))
    (λ (later : Contains live b). absurd (differs (map serial live) s.serial b.serial distinct (image_is_in serial live b later) (ap serial here ∙ same)))
    (among_cases s live b second))
    (λ (later : Contains live a). ⊎_elim
    (λ (there : s ≡ b). absurd (differs (map serial live) s.serial a.serial distinct (image_is_in serial live a later) (ap serial there ∙ sym same)))
    (λ (both : Contains live b). same_source live a b (IsDistinct-tail nat_eq s.serial (map serial live) distinct) later both same)
    (among_cases s live b second))
    (among_cases s live a first)

-- the live source of a key, by its serial
pub record Lives (live : List LiveSource) (key serial : ℕ) : Type 0 where
  pub source : LiveSource
  pub among : Contains live source
  pub key_is : source.key ≡ key
  pub serial_is : source.serial ≡ serial

lives_by : (live : List LiveSource) (key serial : ℕ) (found : Option LiveSource) → find (λ (s : LiveSource). s.key == key) live ≡ found
    → option_map (λ (s : LiveSource). s.serial) found ≡ Some serial → Lives live key serial
lives_by live key serial None is has = absurd (cc)
lives_by live key serial (Some s) is has =
    let at = found_is_in (λ (s : LiveSource). s.key == key) live s is in
    record { source = s; among = at.0; key_is = eqb-true s.key key at.1; serial_is = cc }

pub lives : (live : List LiveSource) (key serial : ℕ) → serial_in live key ≡ Some serial → Lives live key serial
lives live key serial is = lives_by live key serial (find (λ (s : LiveSource). s.key == key) live) refl is

-- two keys do not have one serial
pub keys_agree : (live : List LiveSource) (serials k key n serial : ℕ) → LiveSound live serials → serial_in live k ≡ Some n → serial_in live key ≡ Some serial → n ≡ serial → k ≡ key
keys_agree live serials k key n serial sound first second same =
    let a = lives live k n first in
    let b = lives live key serial second in
    sym a.key_is ∙ same_source live a.source b.source sound.serials_differ a.among b.among (a.serial_is ∙ same ∙ sym b.serial_is) ∙ b.key_is

pub serial_given : (live : List LiveSource) (serials key serial : ℕ) → LiveSound live serials → serial_in live key ≡ Some serial → serial ≤ serials
serial_given live serials key serial sound is =
    let a = lives live key serial is in
    let most = All-contains (λ (s : LiveSource). s.serial ≤ serials) live a.source sound.given a.among in
    omega (arith, most, a.serial_is)
