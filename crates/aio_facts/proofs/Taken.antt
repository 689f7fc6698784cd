-- What a world has of the directions once the waiters of one were taken, and that its listeners are as sound as before.
use Rattle.std.proofs.Common.{◌≡◌, ℕ, Bool, true, false, not, cond, max, if◌then◌else◌, List, [], ◌∷◌, ◌++◌, map, filter, None, is_some, option_map, refl, sym, ap, ◌∙◌, arith, ◌≤◌, nat_eq, IsTrue, subst}
use Rattle.std.proofs.lemmas.Bool.{and_parts, true≢false}
use Rattle.aio_base.specs.declared.names.Dir.{Dir}
use Rattle.aio_base.specs.Machine.{without_waiters}
use Rattle.aio_base.specs.Rounds.{rounds_at, last_tick}
use Rattle.aio_base.specs.World.{World, PollWaiter, ListenerEntry, HandledDirection, is_of, poll_waiter, without_waiter}
use Rattle.aio_base.proofs.Searching.{of_not, filtered_lost, filtered_found}
use Rattle.aio_base.proofs.WaiterLemmas.{is_of-from}
use Rattle.aio_facts.specs.Facts.{facts_in, is_polled_of}
use Rattle.aio_facts.proofs.Waiting.{of_other, not_true, facts_are}
use Rattle.std.specs.List.{All, IsDistinct}
use Rattle.std.proofs.lemmas.List.Elements.{All-map, All-weaker}
use Rattle.aio_facts.specs.Sound.{ListenersSound}

-- ## The listeners

-- an entry once the wakers of a direction were taken
abbrev pub cleared : ℕ → Dir → ListenerEntry → ListenerEntry
cleared serial dir l = if is_of serial dir l.serial l.dir then record l { waker = None } else l

either_same : {X : Type 0} (f : ListenerEntry → X) (here : Bool) (l : ListenerEntry) → f (record l { waker = None }) ≡ f l
    → f (if here then record l { waker = None } else l) ≡ f l
either_same f true l same = same
either_same f false l same = refl

-- what does not see the waker
pub cleared_same : {X : Type 0} (f : ListenerEntry → X) (serial : ℕ) (dir : Dir) (l : ListenerEntry) → f (record l { waker = None }) ≡ f l → f (cleared serial dir l) ≡ f l
cleared_same f serial dir l same = either_same f (is_of serial dir l.serial l.dir) l same

kept_step : {X : Type 0} (here there : Bool) (x y : X) (xs ys : List X) → here ≡ there → (there ≡ true → x ≡ y) → xs ≡ ys → cond here (x ∷ xs) xs ≡ cond there (y ∷ ys) ys
kept_step true true x y xs ys test same rest = ap (λ first. first ∷ xs) (same refl) ∙ ap (λ later. y ∷ later) rest
kept_step false false x y xs ys test same rest = rest
kept_step true false x y xs ys test same rest = absurd (true≢false test)
kept_step false true x y xs ys test same rest = absurd (true≢false (sym test))

-- those that a filter keeps, where they did not change
kept_same : {X : Type 0} (q : X → Bool) (f : X → X) → ((x : X) → q (f x) ≡ q x) → ((x : X) → q x ≡ true → f x ≡ x) → (xs : List X)
    → filter q (map f xs) ≡ filter q xs
kept_same q f test same [] = refl
kept_same q f test same (x ∷ xs) = kept_step (q (f x)) (q x) (f x) x (filter q (map f xs)) (filter q xs) (test x) (same x) (kept_same q f test same xs)

is_other : (here : Bool) (l : ListenerEntry) → here ≡ false → (if here then record l { waker = None } else l) ≡ l
is_other true l none = absurd (true≢false none)
is_other false l none = refl

-- of another direction
polled_aside : (serial : ℕ) (dir : Dir) (n : ℕ) (d : Dir) (ls : List ListenerEntry) → is_of n d serial dir ≡ false
    → filter (is_polled_of n d) (map (cleared serial dir) ls) ≡ filter (is_polled_of n d) ls
polled_aside serial dir n d ls apart =
    kept_same (is_polled_of n d) (cleared serial dir) (λ l. cleared_same (is_polled_of n d) serial dir l refl)
    (λ l passes. is_other (is_of serial dir l.serial l.dir) l (of_other n d serial dir l.serial l.dir apart (and_parts (is_of n d l.serial l.dir) (is_some l.position) passes).0)) ls

pub numbers_cleared : (serial : ℕ) (dir : Dir) (ls : List ListenerEntry) → map (λ (l : ListenerEntry). l.number) (map (cleared serial dir) ls) ≡ map (λ (l : ListenerEntry). l.number) ls
numbers_cleared serial dir [] = refl
numbers_cleared serial dir (l ∷ ls) =
    ap (λ (n : ℕ). n ∷ map (λ (l : ListenerEntry). l.number) (map (cleared serial dir) ls)) (cleared_same (λ (l : ListenerEntry). l.number) serial dir l refl)
    ∙ ap (λ (ns : List ℕ). l.number ∷ ns) (numbers_cleared serial dir ls)

holds_cleared : (here : Bool) (l : ListenerEntry) → (IsTrue (is_some l.waker) → IsTrue (is_some l.position))
    → IsTrue (is_some (if here then record l { waker = None } else l).waker) → IsTrue (is_some (if here then record l { waker = None } else l).position)
holds_cleared true l holds some = cc
holds_cleared false l holds some = holds some

pub all_cleared : (P Q : ListenerEntry → Type 0) (serial : ℕ) (dir : Dir) (ls : List ListenerEntry) → ((l : ListenerEntry) → P l → Q (cleared serial dir l)) → All P ls
    → All Q (map (cleared serial dir) ls)
all_cleared P Q serial dir ls step all = All-map Q (cleared serial dir) ls (All-weaker P (λ l. Q (cleared serial dir l)) step ls all)

pub sound_cleared : (serial : ℕ) (dir : Dir) (ls : List ListenerEntry) (drawn serials : ℕ) → ListenersSound ls drawn serials → ListenersSound (map (cleared serial dir) ls) drawn serials
sound_cleared serial dir ls drawn serials sound = record {
  numbers = subst (IsDistinct nat_eq) (sym (numbers_cleared serial dir ls)) sound.numbers;
  given = all_cleared (λ (l : ListenerEntry). l.number ≤ drawn) (λ (l : ListenerEntry). l.number ≤ drawn) serial dir ls
      (λ l few. subst (λ n. n ≤ drawn) (sym (cleared_same (λ (l : ListenerEntry). l.number) serial dir l refl)) few) sound.given;
  registered = all_cleared (λ (l : ListenerEntry). l.serial ≤ serials) (λ (l : ListenerEntry). l.serial ≤ serials) serial dir ls
      (λ l few. subst (λ n. n ≤ serials) (sym (cleared_same (λ (l : ListenerEntry). l.serial) serial dir l refl)) few) sound.registered;
  only_polled_hold = all_cleared (λ (l : ListenerEntry). IsTrue (is_some l.waker) → IsTrue (is_some l.position)) (λ (l : ListenerEntry). IsTrue (is_some l.waker) → IsTrue (is_some l.position))
      serial dir ls (λ l holds. holds_cleared (is_of serial dir l.serial l.dir) l holds) sound.only_polled_hold;
}

-- ## The directions

nothing_greater : (x : ℕ) → max x 0 ≡ max 0 x
nothing_greater x = omega arith

first_greater : (a last x n : ℕ) → n ≡ max last x → max a n ≡ max (max a last) x
first_greater a last x n is = omega arith

-- with one more event handled
pub tick_more : (begun : List ℕ) (handled : List HandledDirection) (h : HandledDirection) (serial : ℕ) (dir : Dir)
    → last_tick begun (handled ++ h ∷ []) serial dir ≡ max (last_tick begun handled serial dir) (if is_of serial dir h.serial h.dir then rounds_at begun h.begin else 0)
tick_more begun [] h serial dir = nothing_greater _
tick_more begun (k ∷ handled) h serial dir = first_greater _ _ _ _ (tick_more begun handled h serial dir)

none_greater : (n : ℕ) → max n 0 ≡ n
none_greater n = omega arith

pub itself : (serial : ℕ) (dir : Dir) → is_of serial dir serial dir ≡ true
itself serial dir = is_of-from serial dir serial dir refl refl

pub taken_aside : (w : World) (serial begin : ℕ) (dir : Dir) (n : ℕ) (d : Dir) → is_of serial dir n d ≡ false → facts_in (without_waiters w serial begin dir) n d ≡ facts_in w n d
taken_aside w serial begin dir n d apart =
    let turned = of_other serial dir n d serial dir apart (itself serial dir) in
    facts_are _ _
    (ap (option_map (λ (p : PollWaiter). p.waker))
    (filtered_found (λ (p : PollWaiter). is_of n d p.serial p.dir) (λ (p : PollWaiter). not (is_of serial dir p.serial p.dir)) w.poll_waiters
    (λ p among lost. of_other serial dir n d p.serial p.dir apart (of_not (is_of serial dir p.serial p.dir) lost))))
    refl
    (tick_more w.begun w.handled (record { serial = serial; dir = dir; begin = begin }) n d
    ∙ ap (λ (here : Bool). max (last_tick w.begun w.handled n d) (if here then rounds_at w.begun begin else 0)) turned ∙ none_greater (last_tick w.begun w.handled n d))
    (polled_aside serial dir n d w.listeners turned)

pub waiter_gone : (ps : List PollWaiter) (serial : ℕ) (dir : Dir) → poll_waiter (without_waiter ps serial dir) serial dir ≡ None
waiter_gone ps serial dir =
    ap (option_map (λ (p : PollWaiter). p.waker))
    (filtered_lost (λ (p : PollWaiter). is_of serial dir p.serial p.dir) (λ (p : PollWaiter). not (is_of serial dir p.serial p.dir)) ps (λ p among kept. not_true (is_of serial dir p.serial p.dir) kept))
