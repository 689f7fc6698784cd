-- A core with a new listener, which was not polled, stands for a world with a new listener.
use Rattle.std.proofs.Common.{◌≡◌, ◌≢◌, ℕ, zero, suc, ◌+◌, ◌≤◌, Bool, true, false, cond, ◌&&◌, ◌||◌, nat_eq, IsTrue, List, [], ◌∷◌, ◌++◌, map, find, filter, length, slice_set, slice_index_or, Option, None, Some, IfSome, is_some, refl, sym, ap, ◌∙◌, subst, arith, ⊎_elim}
use Rattle.std.specs.List.{All, AllByRecursion, Contains, IsDistinct}
use Rattle.std.proofs.lemmas.Bool.{cases_eq, eq-eqb, ne_eqb}
use Rattle.std.proofs.lemmas.List.Elements.{All-nil, All-cons, All-append, All-contains, All-weaker}
use Rattle.std.proofs.lemmas.Map.Keys.{IsDistinct-cons, IsDistinct-head, IsDistinct-tail}
use Rattle.aio_base.specs.declared.names.Dir.{Dir}
use Rattle.aio_base.specs.declared.names.Key.{Key}
use Rattle.aio_base.specs.Devices.{Interests}
use Rattle.aio_base.specs.Machine.{is_listener, hand_of}
use Rattle.aio_base.specs.World.{World, ListenerEntry, LiveSource, is_broken, is_armed, is_of, has_dir}
use Rattle.aio_base.proofs.Membership.{first_is_in, later_is_in, filtered_is_in}
use Rattle.aio_base.proofs.Searching.{nothing_found, pushed_found, pushed_passed}
use Rattle.aio_source.specs.Rules.{direction_of}
use Rattle.aio_source.specs.Values.{DirectionValue}
use Rattle.aio_react.specs.declared.entries.Listener.{Listener}
use Rattle.aio_react.specs.declared.entries.SourceEntry.{SourceEntry}
use Rattle.aio_react.specs.Cores.{CoreValue, entry_at}
use Rattle.aio_facts.specs.Facts.{facts_in, is_polled_of, serial_in}
use Rattle.aio_react.specs.Numbers.{value_of}
use Rattle.aio_react.specs.Standing.{DirectionStands, PlaceStands, ListenerStands, is_in_hand, polled_entry, ticket_in, StandsWithin}
use Rattle.aio_facts.specs.Sound.{IsBefore}
use Rattle.aio_react.proofs.sources.SourceChanges.{count_again, place_here, place_aside}
use Rattle.aio_facts.proofs.Serials.{serial_given}
use Rattle.aio_facts.proofs.Waiting.{facts_are}

-- ## Places

-- what is so of each place stays so where one is filled anew
pub each_place : (Q : ℕ → Option SourceEntry → Type 0) (sources : List (Option SourceEntry)) (key : ℕ) (e new : SourceEntry) → entry_at sources key ≡ Some e
    → (Q key (Some e) → Q key (Some new)) → ((k : ℕ) → Q k (entry_at sources k)) → (k : ℕ) → Q k (entry_at (slice_set sources key (Some new)) k)
each_place Q sources key e new is one each k =
    ⊎_elim
    (λ (here : k ≡ key). subst (λ n. Q n (entry_at (slice_set sources key (Some new)) n)) (sym here)
    (subst (Q key) (sym (place_here sources key e (Some new) is)) (one (subst (Q key) is (each key)))))
    (λ (apart : k ≢ key). subst (Q k) (sym (place_aside sources key k (Some new) apart)) (each k))
    (cases_eq k key)

module _ {X : Type 0} where
  pub last_place : (xs : List (Option X)) (v : Option X) (k : ℕ) → k ≡ length xs → slice_index_or (xs ++ v ∷ []) k None ≡ v
  last_place [] v zero is = refl
  last_place [] v (suc k) is = absurd (omega arith)
  last_place (x ∷ xs) v zero is = absurd (omega arith)
  last_place (x ∷ xs) v (suc k) is = last_place xs v k (omega arith)

  pub other_place : (xs : List (Option X)) (v : Option X) (k : ℕ) → k ≢ length xs → slice_index_or (xs ++ v ∷ []) k None ≡ slice_index_or xs k None
  other_place [] v zero apart = absurd (apart refl)
  other_place [] v (suc k) apart = refl
  other_place (x ∷ xs) v zero apart = refl
  other_place (x ∷ xs) v (suc k) apart = other_place xs v k (λ (e : k ≡ length xs). apart (ap suc e))

pub new_value : (listeners : List (Option Listener)) (l : Listener) (number : ℕ) → number ≡ length listeners + 1 → value_of (listeners ++ Some l ∷ []) number ≡ Some l
new_value listeners l number is = last_place (None ∷ listeners) (Some l) number (omega (arith, is))

pub old_value : (listeners : List (Option Listener)) (l : Listener) (number : ℕ) → number ≢ length listeners + 1 → value_of (listeners ++ Some l ∷ []) number ≡ value_of listeners number
old_value listeners l number apart = other_place (None ∷ listeners) (Some l) number (λ (e : number ≡ length (None ∷ listeners)). apart (omega (arith, e)))

-- ## Facts

pub pushed_out : {X : Type 0} (p : X → Bool) (xs : List X) (x : X) → p x ≡ false → filter p (xs ++ x ∷ []) ≡ filter p xs
pushed_out p [] x out = ap (λ (b : Bool). cond b (x ∷ []) []) out
pushed_out p (y ∷ xs) x out = ap (λ (rest : List _). cond (p y) (y ∷ rest) rest) (pushed_out p xs x out)

pub mapped_same : {X Y : Type 0} (f g : X → Y) (xs : List X) → ((x : X) → Contains xs x → f x ≡ g x) → map f xs ≡ map g xs
mapped_same f g [] same = refl
mapped_same f g (x ∷ xs) same = ap (λ (y : _). y ∷ map f xs) (same x (first_is_in x xs)) ∙ ap (λ (ys : List _). g x ∷ ys) (mapped_same f g xs (λ y among. same y (later_is_in x xs y among)))

and_false : (b : Bool) → b && false ≡ false
and_false true = refl
and_false false = refl

-- the new entry of the world
abbrev pub unpolled : ℕ → ℕ → Dir → ListenerEntry
unpolled number serial dir = record { number = number; serial = serial; dir = dir; position = None; waker = None }

abbrev pub with_listener : World → ListenerEntry → World
with_listener w x = record w { listeners = w.listeners ++ x ∷ []; listeners_drawn = x.number }

facts_same : (w : World) (number serial : ℕ) (dir : Dir) (n : ℕ) (d : Dir) → facts_in (with_listener w (unpolled number serial dir)) n d ≡ facts_in w n d
facts_same w number serial dir n d = facts_are _ _ refl refl refl (pushed_out (is_polled_of n d) w.listeners (unpolled number serial dir) (and_false (is_of n d serial dir)))

entries_same : (w : World) (listeners : List (Option Listener)) (l : Listener) (n : ℕ) (d : Dir) → All (λ (x : ListenerEntry). x.number ≤ length listeners) w.listeners
    → map (polled_entry (listeners ++ Some l ∷ [])) (filter (is_polled_of n d) w.listeners) ≡ map (polled_entry listeners) (filter (is_polled_of n d) w.listeners)
entries_same w listeners l n d given =
    mapped_same (polled_entry (listeners ++ Some l ∷ [])) (polled_entry listeners) (filter (is_polled_of n d) w.listeners)
    (λ x among.
    let most : x.number ≤ length listeners = All-contains (λ (x : ListenerEntry). x.number ≤ length listeners) w.listeners x given (filtered_is_in (is_polled_of n d) w.listeners x among) in
    ap (λ (value : Option Listener). (ticket_in value, x.waker)) (old_value listeners l x.number (λ (e : x.number ≡ length listeners + 1). absurd (omega (arith, most, e)))))

direction_same : (w : World) (listeners : List (Option Listener)) (l : Listener) (number serial : ℕ) (dir : Dir) (n : ℕ) (d : Dir) (v : DirectionValue)
    → All (λ (x : ListenerEntry). x.number ≤ length listeners) w.listeners → DirectionStands listeners v (facts_in w n d)
    → DirectionStands (listeners ++ Some l ∷ []) v (facts_in (with_listener w (unpolled number serial dir)) n d)
direction_same w listeners l number serial dir n d v given stands =
    subst (DirectionStands (listeners ++ Some l ∷ []) v) (sym (facts_same w number serial dir n d))
    (record { waiter_is = stands.waiter_is; tick_is = stands.tick_is; remembers = stands.remembers; entries_are = entries_same w listeners l n d given ∙ stands.entries_are })

place_same : (w w' : World) (listeners listeners' : List (Option Listener)) (place : Option SourceEntry) (serial : Option ℕ) → w'.broken ≡ w.broken
    → ((n : ℕ) (d : Dir) (v : DirectionValue) → DirectionStands listeners v (facts_in w n d) → DirectionStands listeners' v (facts_in w' n d))
    → PlaceStands listeners place serial (is_broken w) (facts_in w) → PlaceStands listeners' place serial (is_broken w) (facts_in w')
place_same w w' listeners listeners' None None same each stands = tt
place_same w w' listeners listeners' None (Some n) same each stands = absurd stands
place_same w w' listeners listeners' (Some e) None same each stands = absurd stands
place_same w w' listeners listeners' (Some e) (Some n) same each stands = record {
  each = λ d. each n d (direction_of e.source.directions d) (stands.each d);
  broken_is = stands.broken_is;
}

-- ## Numbers

number_apart : (n : ℕ) (ls : List ListenerEntry) (x : ListenerEntry) → n ≢ x.number → AllByRecursion (λ k. nat_eq n k ≡ false) (map (λ (l : ListenerEntry). l.number) ls)
    → AllByRecursion (λ k. nat_eq n k ≡ false) (map (λ (l : ListenerEntry). l.number) (ls ++ x ∷ []))
number_apart n [] x apart all = (ne_eqb n x.number apart, tt)
number_apart n (l ∷ ls) x apart all = (all.0, number_apart n ls x apart all.1)

none_twice : IsDistinct nat_eq []
unfolding IsDistinct
none_twice = tt

pub numbers_differ : (ls : List ListenerEntry) (x : ListenerEntry) → ((l : ListenerEntry) → Contains ls l → l.number ≢ x.number) → IsDistinct nat_eq (map (λ (l : ListenerEntry). l.number) ls)
    → IsDistinct nat_eq (map (λ (l : ListenerEntry). l.number) (ls ++ x ∷ []))
numbers_differ [] x apart distinct = IsDistinct-cons nat_eq x.number [] tt none_twice
numbers_differ (l ∷ ls) x apart distinct =
    IsDistinct-cons nat_eq l.number (map (λ (l : ListenerEntry). l.number) (ls ++ x ∷ []))
    (number_apart l.number ls x (apart l (first_is_in l ls)) (IsDistinct-head nat_eq l.number (map (λ (l : ListenerEntry). l.number) ls) distinct))
    (numbers_differ ls x (λ k among. apart k (later_is_in l ls k among)) (IsDistinct-tail nat_eq l.number (map (λ (l : ListenerEntry). l.number) ls) distinct))

pub pushed_all : {X : Type 0} (P : X → Type 0) (xs : List X) (x : X) → All P xs → P x → All P (xs ++ x ∷ [])
pushed_all P xs x all one = All-append P xs (x ∷ []) all (All-cons P x [] one (All-nil P))

pub listener_same : (live : List LiveSource) (begun : List ℕ) (value value' : Option Listener) (found found' : Option ListenerEntry) → value' ≡ value → found' ≡ found
    → ListenerStands live begun value found → ListenerStands live begun value' found'
listener_same live begun value value' found found' e f stands =
    subst (λ (v : Option Listener). ListenerStands live begun v found') (sym e) (subst (λ (l : Option ListenerEntry). ListenerStands live begun value l) (sym f) stands)

pub pushed_length : {X : Type 0} (xs : List X) (x : X) → length (xs ++ x ∷ []) ≡ length xs + 1
pushed_length [] x = refl
pushed_length (y ∷ xs) x = omega (arith, pushed_length xs x)

drawn_more : (listeners : List (Option Listener)) (l : Option Listener) (drawn : ℕ) → drawn ≡ length listeners → drawn + 1 ≡ length (listeners ++ l ∷ [])
drawn_more listeners l drawn is = ap (λ n. n + 1) is ∙ sym (pushed_length listeners l)

-- ## The whole

abbrev pub counted : SourceEntry → SourceEntry
counted e = record e { listeners = e.listeners + 1 }

abbrev pub new_listener_of : Key → Dir → Listener
new_listener_of key dir = record { key = key; dir = dir; first = None }

abbrev pub with_new_listener : CoreValue → SourceEntry → Key → Dir → CoreValue
with_new_listener core e key dir = record core { sources = slice_set core.sources key.0 (Some (counted e)); listeners = core.listeners ++ Some (new_listener_of key dir) ∷ [] }

pub listen_stands : (bound : ℕ) (told : Option Interests) (core : CoreValue) (w : World) (key : Key) (dir : Dir) (serial : ℕ) (e : SourceEntry) → StandsWithin bound told core w
    → entry_at core.sources key.0 ≡ Some e → serial_in w.live key.0 ≡ Some serial
    → StandsWithin bound told (with_new_listener core e key dir) (with_listener w (unpolled (w.listeners_drawn + 1) serial dir))
listen_stands bound told core w key dir serial e stands is found =
    let l = new_listener_of key dir in
    let number = w.listeners_drawn + 1 in
    let x = unpolled number serial dir in
    let w' : World = with_listener w x in
    let listeners' = core.listeners ++ Some l ∷ [] in
    let drawn = stands.listeners.drawn_is in
    let given : All (λ (x : ListenerEntry). x.number ≤ length core.listeners) w.listeners =
    All-weaker (λ (x : ListenerEntry). x.number ≤ w.listeners_drawn) (λ (x : ListenerEntry). x.number ≤ length core.listeners) (λ x h. omega (arith, h, drawn)) w.listeners stands.sound.listeners.given in
    let apart : (y : ListenerEntry) → Contains w.listeners y → y.number ≢ number =
    λ y among same. let most : y.number ≤ w.listeners_drawn = All-contains (λ (x : ListenerEntry). x.number ≤ w.listeners_drawn) w.listeners y stands.sound.listeners.given among in absurd (omega (arith, most, same)) in
    record {
      sources = each_place (λ k place. PlaceStands listeners' place (serial_in w.live k) (is_broken w) (facts_in w')) core.sources key.0 e (counted e) is
          (λ here. subst (λ (n : Option ℕ). PlaceStands listeners' (Some (counted e)) n (is_broken w) (facts_in w')) (sym found)
          (subst (λ (n : Option ℕ). PlaceStands listeners' (Some e) n (is_broken w) (facts_in w')) found here))
          (λ k. place_same w w' core.listeners listeners' (entry_at core.sources k) (serial_in w.live k) refl
          (λ n d v stood. direction_same w core.listeners l number serial dir n d v given stood) (stands.sources k));
      count = stands.count ∙ sym (count_again core.sources key.0 e (counted e) is);
      tickets = λ k d. each_place (λ k place. IfSome place (λ (e : SourceEntry). (direction_of e.source.directions d).listeners.drawn ≤ bound)) core.sources key.0 e (counted e) is (λ few. few) (λ k. stands.tickets k d) k;
      listeners = record {
        each = λ n. ⊎_elim
            (λ (here : n ≡ number). subst (λ (v : Option Listener). ListenerStands w.live w.begun v (find (is_listener n) (w.listeners ++ x ∷ []))) (sym (new_value core.listeners l n (omega (arith, here, drawn))))
            (subst (λ (y : Option ListenerEntry). ListenerStands w.live w.begun (Some l) y)
            (sym (pushed_found (is_listener n) w.listeners x (nothing_found (is_listener n) w.listeners (λ y among. ne_eqb y.number n (λ (same : y.number ≡ n). apart y among (same ∙ here)))) (eq-eqb number n (sym here))))
            (found, refl, tt)))
            (λ (other : n ≢ number). listener_same w.live w.begun (value_of core.listeners n) (value_of listeners' n) (find (is_listener n) w.listeners) (find (is_listener n) (w.listeners ++ x ∷ []))
            (old_value core.listeners l n (λ (e : n ≡ length core.listeners + 1). other (omega (arith, e, drawn))))
            (pushed_passed (is_listener n) w.listeners x (ne_eqb number n (λ (e : number ≡ n). other (sym e)))) (stands.listeners.each n))
            (cases_eq n number);
        drawn_is = drawn_more core.listeners (Some l) w.listeners_drawn drawn;
      };
      ticker_is = stands.ticker_is;
      book = stands.book;
      tells = stands.tells;
      asked = λ k d. each_place (λ k place. IfSome place (λ (e : SourceEntry). IsTrue (has_dir e.source.asked d) → IsTrue (is_armed w.armed k d || is_in_hand (hand_of w.round) k))) core.sources key.0 e (counted e) is
          (λ asks. asks) (λ k. stands.asked k d) k;
      round = stands.round;
      sound = record {
        live = stands.sound.live;
        unused = record {
          unbroken = stands.sound.unused.unbroken;
          nothing = λ n d more. facts_same w number serial dir n d ∙ stands.sound.unused.nothing n d more;
        };
        listeners = record {
          numbers = numbers_differ w.listeners x apart stands.sound.listeners.numbers;
          given = pushed_all (λ (y : ListenerEntry). y.number ≤ number) w.listeners x
              (All-weaker (λ (y : ListenerEntry). y.number ≤ w.listeners_drawn) (λ (y : ListenerEntry). y.number ≤ number) (λ y h. omega (arith, h)) w.listeners stands.sound.listeners.given) (omega arith);
          registered = pushed_all (λ (y : ListenerEntry). y.serial ≤ w.serials) w.listeners x stands.sound.listeners.registered (serial_given w.live w.serials key.0 serial stands.sound.live found);
          only_polled_hold = pushed_all (λ (y : ListenerEntry). IsTrue (is_some y.waker) → IsTrue (is_some y.position)) w.listeners x stands.sound.listeners.only_polled_hold (λ holds. holds);
        };
        past = record {
          counted = stands.sound.past.counted;
          rounds_before = stands.sound.past.rounds_before;
          marks_before = stands.sound.past.marks_before;
          polls_before = pushed_all (λ (y : ListenerEntry). IsBefore bound y.position) w.listeners x stands.sound.past.polls_before tt;
          of_rounds = stands.sound.past.of_rounds;
        };
        running = stands.sound.running;
        timers = stands.sound.timers;
      };
    }
