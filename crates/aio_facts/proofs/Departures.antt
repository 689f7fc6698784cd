-- The lists of a world without what is of one source.
use Rattle.std.proofs.Common.{◌≡◌, ◌≢◌, ℕ, nat_eq, ◌+◌, ◌≤◌, Bool, true, false, not, cond, ◌==◌, List, [], ◌∷◌, length, map, filter, find, Option, None, Some, option_map, refl, sym, ap, ◌∙◌, arith}
use Rattle.std.specs.List.{All, AllByRecursion, IsDistinct, list_any}
use Rattle.std.proofs.lemmas.Bool.{ne_eqb, eq-eqb, eqb-true, and_parts, not_from_false, true≢false}
use Rattle.std.proofs.lemmas.List.Elements.{All-head, All-tail}
use Rattle.std.proofs.lemmas.Map.Views.{any-filter_same}
use Rattle.aio_base.specs.declared.names.Dir.{Dir}
use Rattle.aio_base.specs.World.{LiveSource, PollWaiter, Mark, BrokenSource, is_of, poll_waiter, mark_of, without_broken}
use Rattle.aio_facts.specs.Facts.{serial_in}
use Rattle.aio_facts.proofs.Arrivals.{turned}

-- ## Searches after a filter

kept_step : {X : Type 0} (p : X → Bool) (here kept : Bool) (x : X) (xs ys : List X) → p x ≡ here → (here ≡ true → kept ≡ true)
    → find p xs ≡ find p ys → find p (cond kept (x ∷ xs) xs) ≡ cond here (Some x) (find p ys)
kept_step p true true x xs ys is keeps rest = rw is refl
kept_step p true false x xs ys is keeps rest = absurd (true≢false (sym (keeps refl)))
kept_step p false true x xs ys is keeps rest = rw is rest
kept_step p false false x xs ys is keeps rest = rest

-- a filter that keeps what a search looks for
find_kept : {X : Type 0} (p q : X → Bool) → ((x : X) → p x ≡ true → q x ≡ true) → (xs : List X) → find p (filter q xs) ≡ find p xs
find_kept p q keeps [] = refl
find_kept p q keeps (x ∷ xs) = kept_step p (p x) (q x) x (filter q xs) xs refl (keeps x) (find_kept p q keeps xs)

lost_step : {X : Type 0} (p : X → Bool) (here kept : Bool) (x : X) (xs : List X) → p x ≡ here → (here ≡ true → kept ≡ false) → find p xs ≡ None
    → find p (cond kept (x ∷ xs) xs) ≡ None
lost_step p true true x xs is drops rest = absurd (true≢false (drops refl))
lost_step p true false x xs is drops rest = rest
lost_step p false true x xs is drops rest = rw is rest
lost_step p false false x xs is drops rest = rest

-- a filter that drops it
find_lost : {X : Type 0} (p q : X → Bool) → ((x : X) → p x ≡ true → q x ≡ false) → (xs : List X) → find p (filter q xs) ≡ None
find_lost p q drops [] = refl
find_lost p q drops (x ∷ xs) = lost_step p (p x) (q x) x (filter q xs) refl (drops x) (find_lost p q drops xs)

-- ## Numbers that differ

differs_step : {X : Type 0} (number : X → ℕ) (n : ℕ) (kept : Bool) (x : X) (xs : List X) → nat_eq n (number x) ≡ false → AllByRecursion (λ m. nat_eq n m ≡ false) (map number xs)
    → AllByRecursion (λ m. nat_eq n m ≡ false) (map number (cond kept (x ∷ xs) xs))
differs_step number n true x xs own rest = (own, rest)
differs_step number n false x xs own rest = rest

differs_filter : {X : Type 0} (number : X → ℕ) (q : X → Bool) (n : ℕ) (xs : List X) → AllByRecursion (λ m. nat_eq n m ≡ false) (map number xs)
    → AllByRecursion (λ m. nat_eq n m ≡ false) (map number (filter q xs))
differs_filter number q n [] each = tt
differs_filter number q n (x ∷ xs) each = differs_step number n (q x) x (filter q xs) each.0 (differs_filter number q n xs each.1)

distinct_step : {X : Type 0} (number : X → ℕ) (kept : Bool) (x : X) (xs : List X) → AllByRecursion (λ m. nat_eq (number x) m ≡ false) (map number xs) → IsDistinct nat_eq (map number xs)
    → IsDistinct nat_eq (map number (cond kept (x ∷ xs) xs))
unfolding IsDistinct
distinct_step number true x xs own rest = (own, rest)
distinct_step number false x xs own rest = rest

pub distinct_filter : {X : Type 0} (number : X → ℕ) (q : X → Bool) (xs : List X) → IsDistinct nat_eq (map number xs) → IsDistinct nat_eq (map number (filter q xs))
unfolding IsDistinct
distinct_filter number q [] distinct = distinct
distinct_filter number q (x ∷ xs) distinct =
    distinct_step number (q x) x (filter q xs) (differs_filter number q (number x) xs distinct.0) (distinct_filter number q xs distinct.1)

-- none of these has the number
none_dropped : {X : Type 0} (number : X → ℕ) (n : ℕ) (xs : List X) → AllByRecursion (λ m. nat_eq n m ≡ false) (map number xs) → filter (λ x. not (number x == n)) xs ≡ xs
none_dropped number n [] each = refl
none_dropped number n (x ∷ xs) each = rw (turned n (number x) each.0) (ap (λ rest. x ∷ rest) (none_dropped number n xs each.1))

-- ## The sources that live

abbrev without_serial : List LiveSource → ℕ → List LiveSource
without_serial live serial = filter (λ (s : LiveSource). not (s.serial == serial)) live

abbrev without_key : List LiveSource → ℕ → List LiveSource
without_key live key = filter (λ (s : LiveSource). not (s.key == key)) live

abbrev pub Keyed : List LiveSource → Type 0
Keyed live = IsDistinct nat_eq (map (λ (s : LiveSource). s.key) live)

abbrev pub Numbered : List LiveSource → Type 0
Numbered live = IsDistinct nat_eq (map (λ (s : LiveSource). s.serial) live)

apart_step : (here : Bool) (n serial : ℕ) (s : LiveSource) (found : Option LiveSource) → n == s.serial ≡ false
    → (option_map (λ (s : LiveSource). s.serial) found ≡ Some serial → n == serial ≡ false)
    → option_map (λ (s : LiveSource). s.serial) (cond here (Some s) found) ≡ Some serial → n == serial ≡ false
apart_step true n serial s found own rest is = let same : s.serial ≡ serial = cc in ap (λ m. n == m) (sym same) ∙ own
apart_step false n serial s found own rest is = rest is

-- a serial that differs from all is none of those found
found_apart : (live : List LiveSource) (n key serial : ℕ) → AllByRecursion (λ m. nat_eq n m ≡ false) (map (λ (s : LiveSource). s.serial) live)
    → serial_in live key ≡ Some serial → n == serial ≡ false
found_apart [] n key serial each is = absurd (cc)
found_apart (s ∷ live) n key serial each is =
    apart_step (s.key == key) n serial s (find (λ (s : LiveSource). s.key == key) live) each.0 (found_apart live n key serial each.1) is

same_step : (here there : Bool) (live : List LiveSource) (s : LiveSource) (a b serial : ℕ) → s.key == a ≡ here → s.key == b ≡ there
    → AllByRecursion (λ m. nat_eq s.serial m ≡ false) (map (λ (s : LiveSource). s.serial) live)
    → (serial_in live a ≡ Some serial → serial_in live b ≡ Some serial → a ≡ b)
    → option_map (λ (s : LiveSource). s.serial) (cond here (Some s) (find (λ (s : LiveSource). s.key == a) live)) ≡ Some serial
    → option_map (λ (s : LiveSource). s.serial) (cond there (Some s) (find (λ (s : LiveSource). s.key == b) live)) ≡ Some serial → a ≡ b
same_step true true live s a b serial e f each rest first second = sym (eqb-true s.key a e) ∙ eqb-true s.key b f
same_step true false live s a b serial e f each rest first second =
    let same : s.serial ≡ serial = cc in absurd (true≢false (sym (eq-eqb s.serial serial same) ∙ found_apart live s.serial b serial each second))
same_step false true live s a b serial e f each rest first second =
    let same : s.serial ≡ serial = cc in absurd (true≢false (sym (eq-eqb s.serial serial same) ∙ found_apart live s.serial a serial each first))
same_step false false live s a b serial e f each rest first second = rest first second

-- no two keys have one serial
pub one_key : (live : List LiveSource) (a b serial : ℕ) → Numbered live → serial_in live a ≡ Some serial → serial_in live b ≡ Some serial → a ≡ b
unfolding IsDistinct
one_key [] a b serial distinct first second = absurd (cc)
one_key (s ∷ live) a b serial distinct first second =
    same_step (s.key == a) (s.key == b) live s a b serial refl refl distinct.0 (one_key live a b serial distinct.1) first second

record Leaves (live : List LiveSource) (key serial : ℕ) : Type 0 where
  same : without_serial live serial ≡ without_key live key
  one_less : length (without_key live key) + 1 ≡ length live

leaves_step : (here there : Bool) (s : LiveSource) (live : List LiveSource) (key serial : ℕ) → s.key == key ≡ here → s.serial == serial ≡ there
    → AllByRecursion (λ m. nat_eq s.key m ≡ false) (map (λ (s : LiveSource). s.key) live)
    → AllByRecursion (λ m. nat_eq s.serial m ≡ false) (map (λ (s : LiveSource). s.serial) live)
    → (serial_in live key ≡ Some serial → Leaves live key serial)
    → option_map (λ (s : LiveSource). s.serial) (cond here (Some s) (find (λ (s : LiveSource). s.key == key) live)) ≡ Some serial
    → Leaves (s ∷ live) key serial
leaves_step true true s live key serial e f keys serials rest is =
    let by_serial : without_serial live serial ≡ live = ap (without_serial live) (sym (eqb-true s.serial serial f)) ∙ none_dropped (λ (s : LiveSource). s.serial) s.serial live serials in
    let by_key : without_key live key ≡ live = ap (without_key live) (sym (eqb-true s.key key e)) ∙ none_dropped (λ (s : LiveSource). s.key) s.key live keys in
    record {
      same = rw (e, f) (by_serial ∙ sym by_key);
      one_less = rw e (ap (λ (l : List LiveSource). length l + 1) by_key ∙ omega arith);
    }
leaves_step true false s live key serial e f keys serials rest is =
    let same : s.serial ≡ serial = cc in absurd (true≢false (sym (eq-eqb s.serial serial same) ∙ f))
leaves_step false true s live key serial e f keys serials rest is =
    absurd (true≢false (sym f ∙ found_apart live s.serial key serial serials is))
leaves_step false false s live key serial e f keys serials rest is =
    let more = rest is in
    record {
      same = rw (e, f) (ap (λ (l : List LiveSource). s ∷ l) more.same);
      one_less = let less = more.one_less in rw e (omega arith);
    }

leaves : (live : List LiveSource) (key serial : ℕ) → Keyed live → Numbered live → serial_in live key ≡ Some serial → Leaves live key serial
unfolding IsDistinct
leaves [] key serial keys serials is = absurd (cc)
leaves (s ∷ live) key serial keys serials is =
    leaves_step (s.key == key) (s.serial == serial) s live key serial refl refl keys.0 serials.0 (leaves live key serial keys.1 serials.1) is

pub one_less : (live : List LiveSource) (key serial : ℕ) → Keyed live → Numbered live → serial_in live key ≡ Some serial
    → length (filter (λ (s : LiveSource). not (s.serial == serial)) live) + 1 ≡ length live
one_less live key serial keys serials is =
    let left = leaves live key serial keys serials is in ap (λ (l : List LiveSource). length l + 1) left.same ∙ left.one_less

-- the key of the source that left has none
pub key_is_free : (live : List LiveSource) (key serial : ℕ) → Keyed live → Numbered live → serial_in live key ≡ Some serial
    → serial_in (filter (λ (s : LiveSource). not (s.serial == serial)) live) key ≡ None
key_is_free live key serial keys serials is =
    ap (λ l. serial_in l key) (leaves live key serial keys serials is).same
    ∙ ap (option_map (λ (s : LiveSource). s.serial)) (find_lost (λ (s : LiveSource). s.key == key) (λ (s : LiveSource). not (s.key == key)) (λ s hit. ap not hit) live)

other_kept : (key k a : ℕ) → k ≢ key → a == k ≡ true → not (a == key) ≡ true
other_kept key k a apart hit = not_from_false (a == key) (ne_eqb a key (λ (same : a ≡ key). apart (sym (eqb-true a k hit) ∙ same)))

-- every other key has what it had
pub others_stay : (live : List LiveSource) (key serial k : ℕ) → Keyed live → Numbered live → serial_in live key ≡ Some serial → k ≢ key
    → serial_in (filter (λ (s : LiveSource). not (s.serial == serial)) live) k ≡ serial_in live k
others_stay live key serial k keys serials is apart =
    ap (λ l. serial_in l k) (leaves live key serial keys serials is).same
    ∙ ap (option_map (λ (s : LiveSource). s.serial)) (find_kept (λ (s : LiveSource). s.key == k) (λ (s : LiveSource). not (s.key == key)) (λ s hit. other_kept key k s.key apart hit) live)

given_step : (here : Bool) (serials serial : ℕ) (s : LiveSource) (found : Option LiveSource) → s.serial ≤ serials
    → (option_map (λ (s : LiveSource). s.serial) found ≡ Some serial → serial ≤ serials)
    → option_map (λ (s : LiveSource). s.serial) (cond here (Some s) found) ≡ Some serial → serial ≤ serials
given_step true serials serial s found own rest is = let same : s.serial ≡ serial = cc in omega arith
given_step false serials serial s found own rest is = rest is

pub was_given : (live : List LiveSource) (serials key serial : ℕ) → All (λ (s : LiveSource). s.serial ≤ serials) live → serial_in live key ≡ Some serial → serial ≤ serials
was_given [] serials key serial given is = absurd (cc)
was_given (s ∷ live) serials key serial given is =
    given_step (s.key == key) serials serial s (find (λ (s : LiveSource). s.key == key) live) (All-head (λ (s : LiveSource). s.serial ≤ serials) s live given)
    (was_given live serials key serial (All-tail (λ (s : LiveSource). s.serial ≤ serials) s live given)) is

-- ## What is of another source

eqb_of : (other a : ℕ) (dir b : Dir) → is_of other dir a b ≡ true → other ≡ a
eqb_of other a dir b hit = sym (eqb-true a other (and_parts (a == other) _ hit).0)

of_other : (serial other : ℕ) (dir : Dir) (a : ℕ) (b : Dir) → other ≢ serial → is_of other dir a b ≡ true → not (a == serial) ≡ true
of_other serial other dir a b apart hit =
    not_from_false (a == serial) (ne_eqb a serial (λ (same : a ≡ serial). apart (eqb_of other a dir b hit ∙ same)))

pub waiter_stays : (waiters : List PollWaiter) (serial other : ℕ) (dir : Dir) → other ≢ serial
    → poll_waiter (filter (λ (p : PollWaiter). not (p.serial == serial)) waiters) other dir ≡ poll_waiter waiters other dir
waiter_stays waiters serial other dir apart =
    ap (option_map (λ (p : PollWaiter). p.waker)) (find_kept (λ (p : PollWaiter). is_of other dir p.serial p.dir) (λ (p : PollWaiter). not (p.serial == serial))
    (λ p hit. of_other serial other dir p.serial p.dir apart hit) waiters)

pub mark_stays : (marks : List Mark) (serial other : ℕ) (dir : Dir) → other ≢ serial
    → mark_of (filter (λ (m : Mark). not (m.serial == serial)) marks) other dir ≡ mark_of marks other dir
mark_stays marks serial other dir apart =
    ap (option_map (λ (m : Mark). m.position)) (find_kept (λ (m : Mark). is_of other dir m.serial m.dir) (λ (m : Mark). not (m.serial == serial))
    (λ m hit. of_other serial other dir m.serial m.dir apart hit) marks)

pub broken_stays : (broken : List BrokenSource) (serial other : ℕ) → other ≢ serial
    → list_any (λ (b : BrokenSource). b.serial == other) (without_broken broken serial) ≡ list_any (λ (b : BrokenSource). b.serial == other) broken
broken_stays broken serial other apart =
    any-filter_same (λ (b : BrokenSource). b.serial == other) (λ (b : BrokenSource). not (b.serial == serial)) true
    (λ b hit. other_kept serial other b.serial apart hit) broken
