-- The steps on listeners give what follows from what is known.
use Rattle.std.proofs.Common.{◌≡◌, ◌≢◌, ℕ, suc, ◌+◌, ◌-◌, ◌≤◌, ◌==◌, Bool, true, false, not, cond, ◌&&◌, ◌||◌, nat_eq, if◌then◌else◌, List, [], ◌∷◌, ◌++◌, length, map, filter, find, Option, None, Some, is_some, option_map, unwrap_or, refl, sym, ap, ◌∙◌, subst, arith, ⊎_elim, length-append}
use Rattle.std.specs.List.{Contains, IsDistinct}
use Rattle.std.proofs.lemmas.Bool.{cases_eq, eq-eqb, ne_eqb, eqb-true, and_parts}
use Rattle.std.proofs.lemmas.List.{length-map}
use Rattle.std.proofs.lemmas.List.Elements.{All-contains}
use Rattle.aio_base.specs.declared.names.Dir.{Dir}
use Rattle.aio_base.specs.declared.names.Waker.{Waker}
use Rattle.aio_base.specs.Machine.{drop_listener, is_fresh_since, is_listener, moved_on, new_listener, step_listener, with_listening, without_listener}
use Rattle.aio_base.specs.Rounds.{rounds_at}
use Rattle.aio_base.specs.World.{PollerAnswer, ListenerEntry, World, is_broken, is_of, key_of}
use Rattle.aio_base.proofs.Membership.{filtered_is_in, filtered_passes, first_is_in, found_is_in, later_is_in, none_is_in, among_cases, image_is_in}
use Rattle.aio_base.proofs.Searching.{of_not, filtered_found, filtered_lost, mapped_found, nothing_found, pushed_found, pushed_passed, unseen_push}
use Rattle.aio_base.proofs.WaiterLemmas.{is_of-eq, is_of-from}
use Rattle.aio_facts.specs.Facts.{facts_in, is_polled_of, serial_in}
use Rattle.aio_facts.specs.Sound.{Sound}
use Rattle.aio_facts.proofs.PolledEntries.{filters_swap, kept_all, mapped_filter, mapped_same_all, mapped_through, pushed_in, same_entry}
use Rattle.aio_facts.proofs.Serials.{differs}
use Rattle.aio_facts.proofs.Waiting.{dir_apart, not_true, of_other, serial_apart}
use Rattle.std.proofs.lemmas.Map.Keys.{IsDistinct-tail}
use Rattle.aio_laws.specs.Covered.{HasSource}
use Rattle.aio_known.specs.Known.{DirectionKnown, ListenerKnown, PolledKnown, SourceKnown, direction_known, entry_known, known_of, listeners_known, listeners_of, polled_known, source_known, sources_known}
use Rattle.aio_known.specs.KnownRuns.{Reached}
use Rattle.aio_known.specs.KnownSteps.{Follows, drop_at, drop_by, is_idle, is_later, new_at, pending, polled_by, step_at, step_by, step_source, with_direction, without_polled}
use Rattle.aio_known.proofs.Changing.{Changes, direction_alters, follows_either, known_changes, source_same}
use Rattle.aio_known.proofs.KnownLists.{key_back, lives_under}
use Rattle.aio_known.proofs.KnownPolls.{idle_known, later_known, now_begun, pending_follows}

-- ## Lists

and_false : (b : Bool) → b && false ≡ false
and_false true = refl
and_false false = refl

-- what a filter keeps of a list from which elements went that it does not see
kept_by : {X : Type 0} (q p : X → Bool) (xs : List X) → ((x : X) → Contains xs x → p x ≡ false → q x ≡ false) → filter q (filter p xs) ≡ filter q xs
kept_by q p [] unseen = refl
kept_by {X} q p (x ∷ xs) unseen = step (p x) refl (unseen x (first_is_in x xs)) (kept_by q p xs (λ y among. unseen y (later_is_in x xs y among)))
  where
    step : (kept : Bool) → p x ≡ kept → (p x ≡ false → q x ≡ false) → filter q (filter p xs) ≡ filter q xs
        → filter q (cond kept (x ∷ filter p xs) (filter p xs)) ≡ cond (q x) (x ∷ filter q xs) (filter q xs)
    step true is none rest = ap (λ (ys : List X). cond (q x) (x ∷ ys) ys) rest
    step false is none rest = rest ∙ sym (ap (λ (b : Bool). cond b (x ∷ filter q xs) (filter q xs)) (none is))

-- one element that passes goes
one_gone : {X : Type 0} (number : X → ℕ) (p : X → Bool) (xs : List X) (x : X) → IsDistinct nat_eq (map number xs) → Contains xs x → p x ≡ true
    → length (filter p (filter (λ y. not (number y == number x)) xs)) + 1 ≡ length (filter p xs)
one_gone number p [] x distinct among passes = none_is_in x among
one_gone {X} number p (y ∷ xs) x distinct among passes =
    ⊎_elim
    (λ (here : y ≡ x).
    let goes : not (number y == number x) ≡ false = ap not (eq-eqb (number y) (number x) (ap number here)) in
    let stay : filter (λ z. not (number z == number x)) xs ≡ xs =
    kept_all (λ z. not (number z == number x)) xs (λ z later.
    ap not (ne_eqb (number z) (number x) (λ (same : number z ≡ number x).
    differs (map number xs) (number y) (number z) distinct (image_is_in number xs z later) (ap number here ∙ sym same)))) in
    let seen : p y ≡ true = ap p here ∙ passes in
    ap (λ (b : Bool). length (filter p (cond b (y ∷ filter (λ z. not (number z == number x)) xs) (filter (λ z. not (number z == number x)) xs))) + 1) goes
    ∙ ap (λ (zs : List X). length (filter p zs) + 1) stay
    ∙ (let more : length (filter p xs) + 1 ≡ suc (length (filter p xs)) = omega arith in more)
    ∙ sym (ap (λ (b : Bool). length (cond b (y ∷ filter p xs) (filter p xs))) seen))
    (λ (later : Contains xs x).
    let stays : not (number y == number x) ≡ true =
    ap not (ne_eqb (number y) (number x) (differs (map number xs) (number y) (number x) distinct (image_is_in number xs x later))) in
    let rest = one_gone number p xs x (IsDistinct-tail nat_eq (number y) (map number xs) distinct) later passes in
    ap (λ (b : Bool). length (filter p (cond b (y ∷ filter (λ z. not (number z == number x)) xs) (filter (λ z. not (number z == number x)) xs))) + 1) stays
    ∙ counted (p y) (filter p (filter (λ z. not (number z == number x)) xs)) (filter p xs) rest)
    (among_cases y xs x among)
  where
    counted : (here : Bool) (xs ys : List X) → length xs + 1 ≡ length ys → length (cond here (y ∷ xs) xs) + 1 ≡ length (cond here (y ∷ ys) ys)
    counted true xs ys e = omega arith
    counted false xs ys e = e

-- ## A new listener

abbrev new_entry : World → ℕ → Dir → ListenerEntry
new_entry w serial dir = record { number = w.listeners_drawn + 1; serial = serial; dir = dir; position = None; waker = None }

abbrev listened : World → ℕ → Dir → World
listened w serial dir = record w { listeners = w.listeners ++ new_entry w serial dir ∷ []; listeners_drawn = w.listeners_drawn + 1 }

count_push : (w : World) (serial n : ℕ) (dir : Dir) (here : Bool) → (serial == n) ≡ here
    → length (listeners_of (listened w serial dir) n) ≡ (if here then length (listeners_of w n) + 1 else length (listeners_of w n))
count_push w serial n dir true is =
    ap (λ (ls : List ListenerEntry). length ls) (pushed_in (λ (l : ListenerEntry). l.serial == n) w.listeners (new_entry w serial dir) is)
    ∙ length-append (listeners_of w n) (new_entry w serial dir ∷ [])
count_push w serial n dir false is =
    ap (λ (ls : List ListenerEntry). length ls) (unseen_push (λ (l : ListenerEntry). l.serial == n) w.listeners (new_entry w serial dir) is)

-- an unpolled listener is none of those that were polled
same_polled : (w : World) (serial : ℕ) (dir : Dir) (n : ℕ) (e : Dir) → direction_known w.begun (facts_in (listened w serial dir) n e) ≡ direction_known w.begun (facts_in w n e)
same_polled w serial dir n e = λ i. record {
  waiter = (facts_in w n e).waiter;
  since = (facts_in w n e).since;
  tick = (facts_in w n e).tick;
  polled = map (polled_known w.begun) (unseen_push (is_polled_of n e) w.listeners (new_entry w serial dir) (and_false (is_of n e serial dir)) i);
}

new_number : (w : World) (serial : ℕ) (dir : Dir) (number : ℕ) → Sound w.pos w
    → listeners_known (listened w serial dir) number
    ≡ (if number == w.listeners_drawn + 1 then Some (record { key = unwrap_or (key_of w serial) 0; dir = dir; since = None }) else listeners_known w number)
new_number w serial dir number sound =
    let e = new_entry w serial dir in
    ⊎_elim
    (λ (same : number ≡ w.listeners_drawn + 1).
    let none : find (is_listener number) w.listeners ≡ None =
    nothing_found (is_listener number) w.listeners (λ l among.
    let few = All-contains (λ (l : ListenerEntry). l.number ≤ w.listeners_drawn) w.listeners l sound.listeners.given among in
    ne_eqb l.number number (λ (is : l.number ≡ number). absurd (omega arith))) in
    ap (option_map (entry_known (listened w serial dir))) (pushed_found (is_listener number) w.listeners e none (eq-eqb (w.listeners_drawn + 1) number (sym same)))
    ∙ sym (ap (λ (b : Bool). if b then Some (record { key = unwrap_or (key_of w serial) 0; dir = dir; since = None }) else listeners_known w number)
    (eq-eqb number (w.listeners_drawn + 1) same)))
    (λ (apart : number ≢ w.listeners_drawn + 1).
    ap (option_map (entry_known (listened w serial dir)))
    (pushed_passed (is_listener number) w.listeners e (ne_eqb (w.listeners_drawn + 1) number (λ (is : w.listeners_drawn + 1 ≡ number). apart (sym is))))
    ∙ sym (ap (λ (b : Bool). if b then Some (record { key = unwrap_or (key_of w serial) 0; dir = dir; since = None }) else listeners_known w number)
    (ne_eqb number (w.listeners_drawn + 1) apart)))
    (cases_eq number (w.listeners_drawn + 1))

new_changes : (w : World) (key serial : ℕ) (dir : Dir) → Sound w.pos w → serial_in w.live key ≡ Some serial
    → (let s = source_known w serial in
    Changes w (listened w serial dir) serial (record s { listeners = s.listeners + 1 })
    (λ n. if n == w.listeners_drawn + 1 then Some (record { key = key; dir = dir; since = None }) else listeners_known w n) (w.listeners_drawn + 1))
new_changes w key serial dir sound found =
    let s = source_known w serial in
    record {
      now_is = refl;
      live_is = refl;
      timers_are = refl;
      rounds_are = refl;
      round_is = refl;
      listeners_are = λ n. new_number w serial dir n sound
          ∙ ap (λ (k : ℕ). if n == w.listeners_drawn + 1 then Some (record { key = k; dir = dir; since = None }) else listeners_known w n) (key_back w key serial sound.live found);
      drawn_is = refl;
      here = source_same (source_known (listened w serial dir) serial) (record s { listeners = s.listeners + 1 }) refl
          (count_push w serial serial dir true (eq-eqb serial serial refl)) (λ e. same_polled w serial dir serial e);
      aside = λ n apart. source_same (source_known (listened w serial dir) n) (source_known w n) refl
          (count_push w serial n dir false (ne_eqb serial n (λ (same : serial ≡ n). apart (sym same)))) (λ e. same_polled w serial dir n e);
    }

pub new_follows : (w : World) (key : ℕ) (dir : Dir) (serial : Option ℕ) (told : PollerAnswer) → Sound w.pos w → serial_in w.live key ≡ serial
    → Follows (moved_on (new_listener w dir serial (told ∷ []))) (new_at (known_of w) key dir (option_map (source_known w) serial))
new_follows w key dir None told sound found = record { answer_is = refl; wakes_are = refl; known_is = refl }
new_follows w key dir (Some serial) told sound found = record {
  answer_is = refl;
  wakes_are = refl;
  known_is = known_changes w (listened w serial dir) key serial _ _ (w.listeners_drawn + 1) sound.live found (new_changes w key serial dir sound found);
}

-- ## One of the listeners

-- an entry of a world's listeners
record Among (w : World) (entry : ListenerEntry) : Type 0 where
  found : find (is_listener entry.number) w.listeners ≡ Some entry
  among : Contains w.listeners entry
  only : (l : ListenerEntry) → Contains w.listeners l → l.number ≡ entry.number → l ≡ entry

among_by : (w : World) (number : ℕ) (entry : ListenerEntry) → Sound w.pos w → find (is_listener number) w.listeners ≡ Some entry → Among w entry × (entry.number ≡ number)
among_by w number entry sound found =
    let at = found_is_in (is_listener number) w.listeners entry found in
    let same : entry.number ≡ number = eqb-true entry.number number at.1 in
    let own : find (is_listener entry.number) w.listeners ≡ Some entry = subst (λ n. find (is_listener n) w.listeners ≡ Some entry) (sym same) found in
    (record { found = own; among = at.0; only = λ l among is. same_entry w.listeners l entry entry.number sound.listeners.numbers own among is }, same)

-- another direction sees no entry of this one
unseen_dir : (w : World) (entry : ListenerEntry) (n : ℕ) (e : Dir) → Among w entry → is_of entry.serial entry.dir n e ≡ false → (l : ListenerEntry) → Contains w.listeners l
    → is_polled_of n e l ≡ true → l.number ≢ entry.number
unseen_dir w entry n e a apart l among seen same =
    let is = a.only l among same in
    let of = (and_parts (is_of n e l.serial l.dir) (is_some l.position) seen).0 in
    let own = is_of-eq n e l.serial l.dir of in
    let there : is_of entry.serial entry.dir n e ≡ true =
    is_of-from entry.serial entry.dir n e (sym own.0 ∙ ap (λ (k : ListenerEntry). k.serial) is) (sym own.1 ∙ ap (λ (k : ListenerEntry). k.dir) is) in
    let no : true ≡ false = sym there ∙ apart in cc

-- ## A later poll

-- an entry with another waker, where it is this one
abbrev rewoken : ℕ → Waker → ListenerEntry → ListenerEntry
rewoken number waker l = if is_listener number l then record l { waker = Some waker } else l

rewoken_same : {X : Type 0} (f : ListenerEntry → X) (number : ℕ) (waker : Waker) (l : ListenerEntry) → f (record l { waker = Some waker }) ≡ f l → f (rewoken number waker l) ≡ f l
rewoken_same {X} f number waker l same = by_test (is_listener number l)
  where
    by_test : (t : Bool) → f (if t then record l { waker = Some waker } else l) ≡ f l
    by_test true = same
    by_test false = refl

rewoken_known : (begun : List ℕ) (number : ℕ) (waker : Waker) (l : ListenerEntry)
    → polled_known begun (rewoken number waker l)
    ≡ (if (polled_known begun l).number == number then record (polled_known begun l) { waker = Some waker } else polled_known begun l)
rewoken_known begun number waker l = by_test (is_listener number l)
  where
    by_test : (t : Bool) → polled_known begun (if t then record l { waker = Some waker } else l) ≡ (if t then record (polled_known begun l) { waker = Some waker } else polled_known begun l)
    by_test true = refl
    by_test false = refl

abbrev again : World → ℕ → Waker → World
again w number waker = record w { listeners = map (rewoken number waker) w.listeners }

count_again : (w : World) (number : ℕ) (waker : Waker) (n : ℕ) → length (listeners_of (again w number waker) n) ≡ length (listeners_of w n)
count_again w number waker n =
    ap (λ (ls : List ListenerEntry). length ls)
    (mapped_filter (rewoken number waker) (λ (l : ListenerEntry). l.serial == n) (λ (l : ListenerEntry). l.serial == n) w.listeners
    (λ l among. rewoken_same (λ (l : ListenerEntry). l.serial == n) number waker l refl))
    ∙ length-map (listeners_of w n) (rewoken number waker)

polled_again : (w : World) (number : ℕ) (waker : Waker) (n : ℕ) (e : Dir)
    → filter (is_polled_of n e) (map (rewoken number waker) w.listeners) ≡ map (rewoken number waker) (filter (is_polled_of n e) w.listeners)
polled_again w number waker n e =
    mapped_filter (rewoken number waker) (is_polled_of n e) (is_polled_of n e) w.listeners (λ l among. rewoken_same (is_polled_of n e) number waker l refl)

again_aside : (w : World) (entry : ListenerEntry) (waker : Waker) (n : ℕ) (e : Dir) → Among w entry → is_of entry.serial entry.dir n e ≡ false
    → direction_known w.begun (facts_in (again w entry.number waker) n e) ≡ direction_known w.begun (facts_in w n e)
again_aside w entry waker n e a apart = λ i. record {
  waiter = (facts_in w n e).waiter;
  since = (facts_in w n e).since;
  tick = (facts_in w n e).tick;
  polled = map (polled_known w.begun)
      ((polled_again w entry.number waker n e
      ∙ mapped_same_all (rewoken entry.number waker) (filter (is_polled_of n e) w.listeners) (λ l kept.
      ap (λ (b : Bool). if b then record l { waker = Some waker } else l)
      (ne_eqb l.number entry.number (unseen_dir w entry n e a apart l (filtered_is_in (is_polled_of n e) w.listeners l kept) (filtered_passes (is_polled_of n e) w.listeners l kept))))) i);
}

-- what is known of a listener that was polled
abbrev polled_listener : World → ListenerEntry → ListenerKnown
polled_listener w entry = record (entry_known w entry) { since = Some (unwrap_or (entry_known w entry).since w.rounds) }

number_again : (w : World) (entry : ListenerEntry) (waker : Waker) (p n : ℕ) → entry.position ≡ Some p → Among w entry
    → listeners_known (again w entry.number waker) n ≡ (if n == entry.number then Some (polled_listener w entry) else listeners_known w n)
number_again w entry waker p n position a =
    let mapped : listeners_known (again w entry.number waker) n ≡ listeners_known w n =
    ap (option_map (entry_known w))
    (mapped_found (rewoken entry.number waker) (is_listener n) (is_listener n) (λ l. rewoken_same (is_listener n) entry.number waker l refl) w.listeners)
    ∙ unseen (find (is_listener n) w.listeners) in
    ⊎_elim
    (λ (same : n ≡ entry.number).
    mapped ∙ ap (listeners_known w) same ∙ ap (option_map (entry_known w)) a.found
    ∙ (λ i. Some (record (entry_known w entry) { since = sinces entry.position position i }))
    ∙ sym (ap (λ (b : Bool). if b then Some (polled_listener w entry) else listeners_known w n) (eq-eqb n entry.number same)))
    (λ (apart : n ≢ entry.number). mapped ∙ sym (ap (λ (b : Bool). if b then Some (polled_listener w entry) else listeners_known w n) (ne_eqb n entry.number apart)))
    (cases_eq n entry.number)
  where
    unseen : (found : Option ListenerEntry) → option_map (entry_known w) (option_map (rewoken entry.number waker) found) ≡ option_map (entry_known w) found
    unseen None = refl
    unseen (Some l) = ap Some (rewoken_same (entry_known w) entry.number waker l refl)

    sinces : (position : Option ℕ) → position ≡ Some p → option_map (rounds_at w.begun) position ≡ Some (unwrap_or (option_map (rounds_at w.begun) position) w.rounds)
    sinces None e = absurd cc
    sinces (Some q) e = refl

again_changes : (w : World) (entry : ListenerEntry) (waker : Waker) (p : ℕ) → entry.position ≡ Some p → Among w entry
    → (let s = source_known w entry.serial in let d = s.at entry.dir in
    Changes w (again w entry.number waker) entry.serial
    (with_direction s entry.dir (record d { polled = map (λ (q : PolledKnown). if q.number == entry.number then record q { waker = Some waker } else q) d.polled }))
    (λ n. if n == entry.number then Some (polled_listener w entry) else listeners_known w n) w.listeners_drawn)
again_changes w entry waker p position a =
    let s = source_known w entry.serial in
    let d = s.at entry.dir in
    let w' : World = again w entry.number waker in
    let d' = record d { polled = map (λ (q : PolledKnown). if q.number == entry.number then record q { waker = Some waker } else q) d.polled } in
    record {
      now_is = refl;
      live_is = refl;
      timers_are = refl;
      rounds_are = refl;
      round_is = refl;
      listeners_are = λ n. number_again w entry waker p n position a;
      drawn_is = refl;
      here = source_same (source_known w' entry.serial) (with_direction s entry.dir d') refl (count_again w entry.number waker entry.serial)
          (direction_alters s entry.dir d' (source_known w' entry.serial).at
          (λ i. record {
            waiter = d.waiter;
            since = d.since;
            tick = d.tick;
            polled = (ap (map (polled_known w.begun)) (polled_again w entry.number waker entry.serial entry.dir)
                ∙ mapped_through (rewoken entry.number waker) (polled_known w.begun)
                (λ (q : PolledKnown). if q.number == entry.number then record q { waker = Some waker } else q)
                (filter (is_polled_of entry.serial entry.dir) w.listeners) (λ l among. rewoken_known w.begun entry.number waker l)) i;
          })
          (λ e other. again_aside w entry waker entry.serial e a (dir_apart entry.serial entry.dir e other)));
      aside = λ n apart. source_same (source_known w' n) (source_known w n) refl (count_again w entry.number waker n)
          (λ e. again_aside w entry waker n e a (serial_apart entry.serial n entry.dir e apart));
    }

-- ## A first poll

-- what does not see a listener does not miss it
seen_gone : (w : World) (entry : ListenerEntry) (q : ListenerEntry → Bool) → Among w entry → q entry ≡ false
    → filter q (without_listener w.listeners entry.number) ≡ filter q w.listeners
seen_gone w entry q a unseen =
    kept_by q (λ l. not (is_listener entry.number l)) w.listeners (λ l among goes.
    ap q (a.only l among (eqb-true l.number entry.number (of_not (is_listener entry.number l) goes))) ∙ unseen)

abbrev first_polled : World → ListenerEntry → Waker → ListenerEntry
first_polled w entry waker = record entry { position = Some w.pos; waker = Some waker }

abbrev first : World → ListenerEntry → Waker → World
first w entry waker = record w { listeners = without_listener w.listeners entry.number ++ first_polled w entry waker ∷ [] }

count_first : (w : World) (entry : ListenerEntry) (waker : Waker) (n : ℕ) (here : Bool) → Sound w.pos w → Among w entry → (entry.serial == n) ≡ here
    → length (listeners_of (first w entry waker) n) ≡ length (listeners_of w n)
count_first w entry waker n true sound a is =
    let of : ListenerEntry → Bool = λ (l : ListenerEntry). l.serial == n in
    let gone = one_gone (λ (l : ListenerEntry). l.number) of w.listeners entry sound.listeners.numbers a.among is in
    ap (λ (ls : List ListenerEntry). length ls) (pushed_in of (without_listener w.listeners entry.number) (first_polled w entry waker) is)
    ∙ length-append (filter of (without_listener w.listeners entry.number)) (first_polled w entry waker ∷ []) ∙ gone
count_first w entry waker n false sound a is =
    let of : ListenerEntry → Bool = λ (l : ListenerEntry). l.serial == n in
    ap (λ (ls : List ListenerEntry). length ls)
    (unseen_push of (without_listener w.listeners entry.number) (first_polled w entry waker) is ∙ seen_gone w entry of a is)

map_push : {X Y : Type 0} (f : X → Y) (xs : List X) (x : X) → map f (xs ++ x ∷ []) ≡ map f xs ++ f x ∷ []
map_push f [] x = refl
map_push f (y ∷ xs) x = ap (λ ys. f y ∷ ys) (map_push f xs x)

-- of another direction
turned : (entry : ListenerEntry) (n : ℕ) (e : Dir) (polled : Bool) → is_of entry.serial entry.dir n e ≡ false → is_of n e entry.serial entry.dir && polled ≡ false
turned entry n e polled apart =
    ap (λ (b : Bool). b && polled) (of_other entry.serial entry.dir n e entry.serial entry.dir apart (is_of-from entry.serial entry.dir entry.serial entry.dir refl refl))

first_aside : (w : World) (entry : ListenerEntry) (waker : Waker) (n : ℕ) (e : Dir) → Among w entry → is_of entry.serial entry.dir n e ≡ false
    → direction_known w.begun (facts_in (first w entry waker) n e) ≡ direction_known w.begun (facts_in w n e)
first_aside w entry waker n e a apart = λ i. record {
  waiter = (facts_in w n e).waiter;
  since = (facts_in w n e).since;
  tick = (facts_in w n e).tick;
  polled = map (polled_known w.begun)
      ((unseen_push (is_polled_of n e) (without_listener w.listeners entry.number) (first_polled w entry waker) (turned entry n e true apart)
      ∙ seen_gone w entry (is_polled_of n e) a (turned entry n e (is_some entry.position) apart)) i);
}

polled_first : (w : World) (entry : ListenerEntry) (waker : Waker) → Sound w.pos w → Among w entry → entry.position ≡ None
    → map (polled_known w.begun) (filter (is_polled_of entry.serial entry.dir) (without_listener w.listeners entry.number ++ first_polled w entry waker ∷ []))
    ≡ map (polled_known w.begun) (filter (is_polled_of entry.serial entry.dir) w.listeners) ++ record { number = entry.number; since = w.rounds; waker = Some waker } ∷ []
polled_first w entry waker sound a unpolled =
    let q = is_polled_of entry.serial entry.dir in
    let own : is_of entry.serial entry.dir entry.serial entry.dir && true ≡ true =
    ap (λ (b : Bool). b && true) (is_of-from entry.serial entry.dir entry.serial entry.dir refl refl) in
    let unseen : q entry ≡ false =
    ap (λ (p : Option ℕ). is_of entry.serial entry.dir entry.serial entry.dir && is_some p) unpolled ∙ and_false (is_of entry.serial entry.dir entry.serial entry.dir) in
    ap (map (polled_known w.begun))
    (pushed_in q (without_listener w.listeners entry.number) (first_polled w entry waker) own
    ∙ ap (λ (ls : List ListenerEntry). ls ++ first_polled w entry waker ∷ []) (seen_gone w entry q a unseen))
    ∙ map_push (polled_known w.begun) (filter q w.listeners) (first_polled w entry waker)
    ∙ ap (λ (since : ℕ). map (polled_known w.begun) (filter q w.listeners) ++ record { number = entry.number; since = since; waker = Some waker } ∷ []) (now_begun w sound)

number_gone : (w : World) (number : ℕ) → find (is_listener number) (without_listener w.listeners number) ≡ None
number_gone w number = filtered_lost (is_listener number) (λ l. not (is_listener number l)) w.listeners (λ l among kept. not_true (is_listener number l) kept)

number_stays : (w : World) (number n : ℕ) → n ≢ number → find (is_listener n) (without_listener w.listeners number) ≡ find (is_listener n) w.listeners
number_stays w number n apart =
    filtered_found (is_listener n) (λ l. not (is_listener number l)) w.listeners (λ l among goes.
    ne_eqb l.number n (λ (same : l.number ≡ n). apart (sym same ∙ eqb-true l.number number (of_not (is_listener number l) goes))))

number_first : (w : World) (entry : ListenerEntry) (waker : Waker) (n : ℕ) → Sound w.pos w → entry.position ≡ None
    → listeners_known (first w entry waker) n ≡ (if n == entry.number then Some (polled_listener w entry) else listeners_known w n)
number_first w entry waker n sound unpolled =
    let e = first_polled w entry waker in
    ⊎_elim
    (λ (same : n ≡ entry.number).
    ap (option_map (entry_known w))
    (pushed_found (is_listener n) (without_listener w.listeners entry.number) e
    (ap (λ m. find (is_listener m) (without_listener w.listeners entry.number)) same ∙ number_gone w entry.number) (eq-eqb entry.number n (sym same)))
    ∙ (λ i. Some (record (entry_known w entry) { since = Some (now_begun w sound i) }))
    ∙ ap (λ (position : Option ℕ). Some (record (entry_known w entry) { since = Some (unwrap_or (option_map (rounds_at w.begun) position) w.rounds) })) (sym unpolled)
    ∙ sym (ap (λ (b : Bool). if b then Some (polled_listener w entry) else listeners_known w n) (eq-eqb n entry.number same)))
    (λ (apart : n ≢ entry.number).
    ap (option_map (entry_known w))
    (pushed_passed (is_listener n) (without_listener w.listeners entry.number) e (ne_eqb entry.number n (λ (same : entry.number ≡ n). apart (sym same)))
    ∙ number_stays w entry.number n apart)
    ∙ sym (ap (λ (b : Bool). if b then Some (polled_listener w entry) else listeners_known w n) (ne_eqb n entry.number apart)))
    (cases_eq n entry.number)

first_changes : (w : World) (entry : ListenerEntry) (waker : Waker) → Sound w.pos w → entry.position ≡ None → Among w entry
    → (let s = source_known w entry.serial in let d = s.at entry.dir in
    Changes w (first w entry waker) entry.serial
    (with_direction s entry.dir (record d { polled = d.polled ++ record { number = entry.number; since = w.rounds; waker = Some waker } ∷ [] }))
    (λ n. if n == entry.number then Some (polled_listener w entry) else listeners_known w n) w.listeners_drawn)
first_changes w entry waker sound unpolled a =
    let s = source_known w entry.serial in
    let d = s.at entry.dir in
    let w' : World = first w entry waker in
    let d' = record d { polled = d.polled ++ record { number = entry.number; since = w.rounds; waker = Some waker } ∷ [] } in
    record {
      now_is = refl;
      live_is = refl;
      timers_are = refl;
      rounds_are = refl;
      round_is = refl;
      listeners_are = λ n. number_first w entry waker n sound unpolled;
      drawn_is = refl;
      here = source_same (source_known w' entry.serial) (with_direction s entry.dir d') refl
          (count_first w entry waker entry.serial true sound a (eq-eqb entry.serial entry.serial refl))
          (direction_alters s entry.dir d' (source_known w' entry.serial).at
          (λ i. record { waiter = d.waiter; since = d.since; tick = d.tick; polled = polled_first w entry waker sound a unpolled i })
          (λ e other. first_aside w entry waker entry.serial e a (dir_apart entry.serial entry.dir e other)));
      aside = λ n apart. source_same (source_known w' n) (source_known w n) refl
          (count_first w entry waker n false sound a (ne_eqb entry.serial n (λ (same : entry.serial ≡ n). apart (sym same))))
          (λ e. first_aside w entry waker n e a (serial_apart entry.serial n entry.dir e apart));
    }

-- ## A poll of a listener

step_found : (w : World) (entry : ListenerEntry) (waker : Waker) (told : PollerAnswer) → Reached w → Among w entry
    → Follows (moved_on (step_listener w waker (Some entry) (told ∷ [])))
    (step_source (known_of w) entry.number waker (entry_known w entry) (source_known w entry.serial) told)
step_found w entry waker told reached a =
    let sound = reached.sound in
    let key = unwrap_or (key_of w entry.serial) 0 in
    let has = All-contains (λ (l : ListenerEntry). HasSource w.live l.serial) w.listeners entry reached.listening a.among in
    rw (later_known w.begun w.handled entry.serial entry.dir entry.position sound.past.of_rounds, idle_known w entry.serial entry.dir sound.listeners.only_polled_hold)
    (follows_either (is_later (entry_known w entry).since (d.tick)) _ _ _ _
    (λ later. record { answer_is = refl; wakes_are = refl; known_is = refl })
    (λ early. by_position key (lives_under w entry.serial sound.live has) entry.position refl))
  where
    s : SourceKnown
    s = source_known w entry.serial

    d : DirectionKnown
    d = (source_known w entry.serial).at entry.dir

    by_position : (key : ℕ) → serial_in w.live key ≡ Some entry.serial → (position : Option ℕ) → entry.position ≡ position
        → Follows
        (moved_on (Rattle.aio_base.specs.Machine.pending (is_idle ((source_known w entry.serial).at entry.dir) || is_broken w entry.serial)
        (record w {
          listeners = if is_some position then map (rewoken entry.number waker) w.listeners
              else without_listener w.listeners entry.number ++ first_polled w entry waker ∷ [];
        })
        key entry.serial [] (told ∷ [])))
        (pending (is_idle ((source_known w entry.serial).at entry.dir) || is_broken w entry.serial)
        (record (known_of w) { listeners = λ n. if n == entry.number then Some (polled_listener w entry) else listeners_known w n }) key
        (with_direction (source_known w entry.serial) entry.dir
        (record ((source_known w entry.serial).at entry.dir) {
          polled = polled_by ((source_known w entry.serial).at entry.dir).polled entry.number waker (option_map (rounds_at w.begun) position) w.rounds;
        })) [] told)
    by_position key found (Some p) is =
        pending_follows _ w (again w entry.number waker) key entry.serial _ _ [] told reached.sound found (again_changes w entry waker p is a)
    by_position key found None is =
        pending_follows _ w (first w entry waker) key entry.serial _ _ [] told reached.sound found (first_changes w entry waker reached.sound is a)

pub step_follows : (w : World) (number : ℕ) (entry : Option ListenerEntry) (waker : Waker) (told : PollerAnswer) → Reached w → find (is_listener number) w.listeners ≡ entry
    → Follows (moved_on (step_listener w waker entry (told ∷ []))) (step_at (known_of w) number waker (option_map (entry_known w) entry) told)
step_follows w number None waker told reached is = record { answer_is = refl; wakes_are = refl; known_is = refl }
step_follows w number (Some entry) waker told reached is =
    let a = among_by w number entry reached.sound is in
    let has = All-contains (λ (l : ListenerEntry). HasSource w.live l.serial) w.listeners entry reached.listening a.0.among in
    let there : sources_known w (entry_known w entry).key ≡ Some (source_known w entry.serial) =
    ap (option_map (source_known w)) (lives_under w entry.serial reached.sound.live has) in
    subst (λ (found : Option SourceKnown). Follows (moved_on (step_listener w waker (Some entry) (told ∷ []))) (step_by (known_of w) number waker (entry_known w entry) found told))
    (sym there)
    (subst (λ (n : ℕ). Follows (moved_on (step_listener w waker (Some entry) (told ∷ []))) (step_source (known_of w) n waker (entry_known w entry) (source_known w entry.serial) told))
    a.1 (step_found w entry waker told reached a.0))

-- ## A listener that is given up

abbrev dropped : World → ℕ → World
dropped w number = record w { listeners = without_listener w.listeners number }

drop_changes : (w : World) (entry : ListenerEntry) → Sound w.pos w → Among w entry
    → (let s = source_known w entry.serial in let d = s.at entry.dir in
    Changes w (dropped w entry.number) entry.serial
    (record (with_direction s entry.dir (record d { polled = without_polled d.polled entry.number })) { listeners = s.listeners - 1 })
    (λ n. if n == entry.number then None else listeners_known w n) w.listeners_drawn)
drop_changes w entry sound a =
    let s = source_known w entry.serial in
    let d = s.at entry.dir in
    let w' : World = dropped w entry.number in
    let d' = record d { polled = without_polled d.polled entry.number } in
    let q = is_polled_of entry.serial entry.dir in
    record {
      now_is = refl;
      live_is = refl;
      timers_are = refl;
      rounds_are = refl;
      round_is = refl;
      listeners_are = λ n. ⊎_elim
          (λ (same : n ≡ entry.number).
          ap (option_map (entry_known w)) (ap (λ m. find (is_listener m) (without_listener w.listeners entry.number)) same ∙ number_gone w entry.number)
          ∙ sym (ap (λ (b : Bool). if b then None else listeners_known w n) (eq-eqb n entry.number same)))
          (λ (apart : n ≢ entry.number).
          ap (option_map (entry_known w)) (number_stays w entry.number n apart)
          ∙ sym (ap (λ (b : Bool). if b then None else listeners_known w n) (ne_eqb n entry.number apart)))
          (cases_eq n entry.number);
      drawn_is = refl;
      here = source_same (source_known w' entry.serial) (record (with_direction s entry.dir d') { listeners = s.listeners - 1 }) refl
          (let gone = one_gone (λ (l : ListenerEntry). l.number) (λ (l : ListenerEntry). l.serial == entry.serial) w.listeners entry sound.listeners.numbers a.among
          (eq-eqb entry.serial entry.serial refl) in omega arith)
          (direction_alters s entry.dir d' (source_known w' entry.serial).at
          (λ i. record {
            waiter = d.waiter;
            since = d.since;
            tick = d.tick;
            polled = (ap (map (polled_known w.begun)) (filters_swap q (λ l. not (is_listener entry.number l)) w.listeners)
                ∙ sym (mapped_filter (polled_known w.begun) (λ l. not (is_listener entry.number l)) (λ (p : PolledKnown). not (p.number == entry.number)) (filter q w.listeners)
                (λ l among. refl))) i;
          })
          (λ e other. aside_known entry.serial e (dir_apart entry.serial entry.dir e other)));
      aside = λ n apart. source_same (source_known w' n) (source_known w n) refl
          (ap (λ (ls : List ListenerEntry). length ls)
          (seen_gone w entry (λ (l : ListenerEntry). l.serial == n) a (ne_eqb entry.serial n (λ (same : entry.serial ≡ n). apart (sym same)))))
          (λ e. aside_known n e (serial_apart entry.serial n entry.dir e apart));
    }
  where
    aside_known : (n : ℕ) (e : Dir) → is_of entry.serial entry.dir n e ≡ false
        → direction_known w.begun (facts_in (dropped w entry.number) n e) ≡ direction_known w.begun (facts_in w n e)
    aside_known n e apart = λ i. record {
      waiter = (facts_in w n e).waiter;
      since = (facts_in w n e).since;
      tick = (facts_in w n e).tick;
      polled = map (polled_known w.begun) (seen_gone w entry (is_polled_of n e) a (turned entry n e (is_some entry.position) apart) i);
    }

pub drop_follows : (w : World) (number : ℕ) (entry : Option ListenerEntry) (told : PollerAnswer) → Reached w → find (is_listener number) w.listeners ≡ entry
    → Follows (moved_on (drop_listener w number entry (told ∷ []))) (drop_at (known_of w) number (option_map (entry_known w) entry))
drop_follows w number None told reached is = record { answer_is = refl; wakes_are = refl; known_is = refl }
drop_follows w number (Some entry) told reached is =
    let a = among_by w number entry reached.sound is in
    let has = All-contains (λ (l : ListenerEntry). HasSource w.live l.serial) w.listeners entry reached.listening a.0.among in
    let key = unwrap_or (key_of w entry.serial) 0 in
    let lives : serial_in w.live key ≡ Some entry.serial = lives_under w entry.serial reached.sound.live has in
    subst (λ (found : Option SourceKnown). Follows (moved_on (drop_listener w number (Some entry) (told ∷ []))) (drop_by (known_of w) number (entry_known w entry) found))
    (sym (ap (option_map (source_known w)) lives))
    (subst (λ (n : ℕ). Follows (moved_on (drop_listener w n (Some entry) (told ∷ []))) (drop_by (known_of w) n (entry_known w entry) (Some (source_known w entry.serial))))
    a.1
    (record {
      answer_is = refl;
      wakes_are = refl;
      known_is = known_changes w (dropped w entry.number) key entry.serial _ _ w.listeners_drawn reached.sound.live lives (drop_changes w entry reached.sound a.0);
    }))
