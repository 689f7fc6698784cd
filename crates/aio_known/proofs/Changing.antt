-- What is known behind a change of one source, and of an arm.
use Rattle.std.proofs.Common.{◌≡◌, ◌≢◌, ℕ, ◌==◌, Bool, true, false, ◌||◌, if◌then◌else◌, List, [], ◌∷◌, ◌++◌, length, Option, None, Some, option_map, refl, sym, ap, ◌∙◌, ⊎_elim}
use Rattle.std.specs.List.{list_any}
use Rattle.std.proofs.lemmas.Bool.{cases_eq, eq-eqb, ne_eqb}
use Rattle.std.proofs.lemmas.List.Folds.{list_any-append}
use Rattle.aio_base.specs.declared.names.Dir.{Dir}
use Rattle.aio_base.specs.declared.names.Dir.TheVariants.{Read, Write, Priority}
use Rattle.aio_base.specs.Machine.{Outcome, after_arm, armed_world, broken_world, fails, moved_on}
use Rattle.aio_base.specs.World.{PollerAnswer, BrokenSource, World, same_dir, without_broken}
use Rattle.aio_base.proofs.BrokenSources.{without_unbroken}
use Rattle.aio_facts.specs.Facts.{serial_in}
use Rattle.aio_facts.specs.Sound.{LiveSound}
use Rattle.aio_facts.proofs.Departures.{broken_stays}
use Rattle.aio_facts.proofs.Serials.{keys_agree}
use Rattle.aio_known.specs.Known.{DirectionKnown, ListenerKnown, SourceKnown, known_of, listeners_known, round_known, source_known, sources_known, timers_known}
use Rattle.aio_known.specs.KnownSteps.{Follows, KnownOutcome, with_direction, with_source}

-- ## One source

-- One source of a world is known to be this, and the listeners by their numbers are these; all else is known as it was.
pub record Changes (w w' : World) (serial : ℕ) (s : SourceKnown) (listeners : ℕ → Option ListenerKnown) (drawn : ℕ) : Type 0 where
  pub now_is : w'.now ≡ w.now
  pub live_is : w'.live ≡ w.live
  pub timers_are : timers_known w' ≡ timers_known w
  pub rounds_are : w'.rounds ≡ w.rounds
  pub round_is : w'.round ≡ w.round
  pub listeners_are : (number : ℕ) → listeners_known w' number ≡ listeners number
  pub drawn_is : w'.listeners_drawn ≡ drawn
  pub here : source_known w' serial ≡ s
  pub aside : (n : ℕ) → n ≢ serial → source_known w' n ≡ source_known w n

-- the source alone
abbrev pub Alters : World → World → ℕ → SourceKnown → Type 0
Alters w w' serial s = Changes w w' serial s (listeners_known w) w.listeners_drawn

pub source_same : (a b : SourceKnown) → a.broken ≡ b.broken → a.listeners ≡ b.listeners → ((dir : Dir) → a.at dir ≡ b.at dir) → a ≡ b
source_same a b e f g = λ i. record { broken = e i; listeners = f i; at = λ dir. g dir i }

others_same : (f g : ℕ → SourceKnown) (serial : Option ℕ) → ((n : ℕ) → serial ≡ Some n → f n ≡ g n) → option_map f serial ≡ option_map g serial
others_same f g None same = refl
others_same f g (Some n) same = ap Some (same n refl)

changed_at : (w w' : World) (key serial : ℕ) (s : SourceKnown) (ls : ℕ → Option ListenerKnown) (drawn : ℕ) → LiveSound w.live w.serials → serial_in w.live key ≡ Some serial
    → Changes w w' serial s ls drawn → (n : ℕ) → sources_known w' n ≡ (if n == key then Some s else sources_known w n)
changed_at w w' key serial s ls drawn sound found changes n =
    ap (λ live. option_map (source_known w') (serial_in live n)) changes.live_is
    ∙ ⊎_elim
    (λ (same : n ≡ key).
    ap (λ k. option_map (source_known w') (serial_in w.live k)) same ∙ ap (option_map (source_known w')) found ∙ ap Some changes.here
    ∙ sym (ap (λ (b : Bool). if b then Some s else sources_known w n) (eq-eqb n key same)))
    (λ (apart : n ≢ key).
    others_same (source_known w') (source_known w) (serial_in w.live n)
    (λ m there. changes.aside m (λ (same : m ≡ serial). apart (keys_agree w.live w.serials n key m serial sound there found same)))
    ∙ sym (ap (λ (b : Bool). if b then Some s else sources_known w n) (ne_eqb n key apart)))
    (cases_eq n key)

pub known_changes : (w w' : World) (key serial : ℕ) (s : SourceKnown) (ls : ℕ → Option ListenerKnown) (drawn : ℕ) → LiveSound w.live w.serials
    → serial_in w.live key ≡ Some serial → Changes w w' serial s ls drawn
    → known_of w' ≡ record (with_source (known_of w) key s) { listeners = ls; drawn = drawn }
known_changes w w' key serial s ls drawn sound found changes = λ i. record {
  now = changes.now_is i;
  sources = λ n. changed_at w w' key serial s ls drawn sound found changes n i;
  count = length (changes.live_is i);
  listeners = λ n. changes.listeners_are n i;
  drawn = changes.drawn_is i;
  timers = changes.timers_are i;
  rounds = changes.rounds_are i;
  round = option_map round_known (changes.round_is i);
}

-- one direction of a source
pub direction_alters : (s : SourceKnown) (dir : Dir) (d : DirectionKnown) (at : Dir → DirectionKnown) → at dir ≡ d
    → ((e : Dir) → same_dir e dir ≡ false → at e ≡ s.at e) → (e : Dir) → at e ≡ (with_direction s dir d).at e
direction_alters s Read d at here apart Read = here
direction_alters s Read d at here apart Write = apart Write refl
direction_alters s Read d at here apart Priority = apart Priority refl
direction_alters s Write d at here apart Read = apart Read refl
direction_alters s Write d at here apart Write = here
direction_alters s Write d at here apart Priority = apart Priority refl
direction_alters s Priority d at here apart Read = apart Read refl
direction_alters s Priority d at here apart Write = apart Write refl
direction_alters s Priority d at here apart Priority = here

-- nothing has changed
pub unchanged : (w : World) (serial : ℕ) → Alters w w serial (source_known w serial)
unchanged w serial = record {
  now_is = refl;
  live_is = refl;
  timers_are = refl;
  rounds_are = refl;
  round_is = refl;
  listeners_are = λ n. refl;
  drawn_is = refl;
  here = refl;
  aside = λ n apart. refl;
}

-- one change after another
pub changes_on : (w w1 w2 : World) (serial : ℕ) (s1 s2 : SourceKnown) (ls : ℕ → Option ListenerKnown) (drawn : ℕ) → Changes w w1 serial s1 ls drawn → Alters w1 w2 serial s2
    → Changes w w2 serial s2 ls drawn
changes_on w w1 w2 serial s1 s2 ls drawn first second = record {
  now_is = second.now_is ∙ first.now_is;
  live_is = second.live_is ∙ first.live_is;
  timers_are = second.timers_are ∙ first.timers_are;
  rounds_are = second.rounds_are ∙ first.rounds_are;
  round_is = second.round_is ∙ first.round_is;
  listeners_are = λ n. second.listeners_are n ∙ first.listeners_are n;
  drawn_is = second.drawn_is ∙ first.drawn_is;
  here = second.here;
  aside = λ n apart. second.aside n apart ∙ first.aside n apart;
}

-- ## An arm

or_false : (b : Bool) → b || false ≡ b
or_false true = refl
or_false false = refl

or_true : (b : Bool) → b || true ≡ true
or_true true = refl
or_true false = refl

broken_aside : (broken : List BrokenSource) (b : BrokenSource) (other : ℕ) → other ≢ b.serial
    → list_any (λ (b : BrokenSource). b.serial == other) (without_broken broken b.serial ++ b ∷ []) ≡ list_any (λ (b : BrokenSource). b.serial == other) broken
broken_aside broken b other apart =
    list_any-append (λ (b : BrokenSource). b.serial == other) (without_broken broken b.serial) (b ∷ [])
    ∙ ap (λ (hit : Bool). list_any (λ (b : BrokenSource). b.serial == other) (without_broken broken b.serial) || (hit || false)) (ne_eqb b.serial other (λ (e : b.serial ≡ other). apart (sym e)))
    ∙ or_false (list_any (λ (b : BrokenSource). b.serial == other) (without_broken broken b.serial)) ∙ broken_stays broken b.serial other apart

broken_here : (broken : List BrokenSource) (b : BrokenSource) → list_any (λ (c : BrokenSource). c.serial == b.serial) (without_broken broken b.serial ++ b ∷ []) ≡ true
broken_here broken b =
    list_any-append (λ (c : BrokenSource). c.serial == b.serial) (without_broken broken b.serial) (b ∷ [])
    ∙ ap (λ (hit : Bool). list_any (λ (c : BrokenSource). c.serial == b.serial) (without_broken broken b.serial) || (hit || false)) (eq-eqb b.serial b.serial refl)
    ∙ or_true (list_any (λ (c : BrokenSource). c.serial == b.serial) (without_broken broken b.serial))

abbrev pub with_broken : SourceKnown → Bool → SourceKnown
with_broken s broken = record s { broken = broken }

pub arm_by : (w w' : World) (key serial : ℕ) (s : SourceKnown) (ls : ℕ → Option ListenerKnown) (drawn : ℕ) (failed : Bool) → Changes w w' serial s ls drawn
    → Changes w (if failed then broken_world w' serial else armed_world w' key serial) serial (with_broken s failed) ls drawn
arm_by w w' key serial s ls drawn false changes = record {
  now_is = changes.now_is;
  live_is = changes.live_is;
  timers_are = changes.timers_are;
  rounds_are = changes.rounds_are;
  round_is = changes.round_is;
  listeners_are = changes.listeners_are;
  drawn_is = changes.drawn_is;
  here = (λ i. record (source_known w' serial) { broken = without_unbroken w'.broken serial i }) ∙ ap (λ s. with_broken s false) changes.here;
  aside = λ n apart. (λ i. record (source_known w' n) { broken = broken_stays w'.broken serial n apart i }) ∙ changes.aside n apart;
}
arm_by w w' key serial s ls drawn true changes =
    let b : BrokenSource = record { serial = serial; position = w'.pos } in
    record {
      now_is = changes.now_is;
      live_is = changes.live_is;
      timers_are = changes.timers_are;
      rounds_are = changes.rounds_are;
      round_is = changes.round_is;
      listeners_are = changes.listeners_are;
      drawn_is = changes.drawn_is;
      here = (λ i. record (source_known w' serial) { broken = broken_here w'.broken b i }) ∙ ap (λ s. with_broken s true) changes.here;
      aside = λ n apart. (λ i. record (source_known w' n) { broken = broken_aside w'.broken b n apart i }) ∙ changes.aside n apart;
    }

pub arm_changes : (w w' : World) (key serial : ℕ) (s : SourceKnown) (ls : ℕ → Option ListenerKnown) (drawn : ℕ) (told : PollerAnswer) → Changes w w' serial s ls drawn
    → Changes w (after_arm w' key serial told) serial (with_broken s (fails told)) ls drawn
arm_changes w w' key serial s ls drawn told changes = arm_by w w' key serial s ls drawn (fails told) changes

-- ## Either case

pub follows_either : (test : Bool) (x y : Outcome) (a b : KnownOutcome) → (test ≡ true → Follows (moved_on x) a) → (test ≡ false → Follows (moved_on y) b)
    → Follows (moved_on (if test then x else y)) (if test then a else b)
follows_either true x y a b first second = first refl
follows_either false x y a b first second = second refl
