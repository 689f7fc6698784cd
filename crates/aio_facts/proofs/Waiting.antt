-- What a world has of the directions once a poll waiter was stored, or was told that it is ready.
use Rattle.std.proofs.Common.{◌≡◌, ◌≢◌, ℕ, ◌<◌, Bool, true, false, not, ◌&&◌, List, [], ◌∷◌, ◌++◌, length, None, Some, option_map, refl, sym, ap, ◌∙◌, arith, le-leb}
use Rattle.std.specs.List.{Contains}
use Rattle.std.proofs.lemmas.Bool.{false≢true, eq-eqb, ne_eqb}
use Rattle.aio_base.specs.declared.names.Dir.{Dir}
use Rattle.aio_base.specs.declared.names.Waker.{Waker}
use Rattle.aio_base.specs.Machine.{with_waiter}
use Rattle.aio_base.specs.Rounds.{rounds_at}
use Rattle.aio_base.specs.World.{World, PollWaiter, Mark, same_dir, is_of, poll_waiter, without_waiter, mark_of, without_mark}
use Rattle.aio_base.proofs.Membership.{first_is_in, later_is_in}
use Rattle.aio_base.proofs.Searching.{false_unless, of_not, filtered_lost, filtered_found, pushed_found, pushed_passed}
use Rattle.aio_base.proofs.WaiterLemmas.{is_of-eq, is_of-from}
use Rattle.aio_facts.specs.Facts.{Facts, facts_in}

pub not_true : (b : Bool) → not b ≡ true → b ≡ false
not_true true e = sym e
not_true false e = refl

-- what is of one direction is not of another
pub of_other : (serial : ℕ) (dir : Dir) (n : ℕ) (d : Dir) (a : ℕ) (b : Dir) → is_of serial dir n d ≡ false → is_of serial dir a b ≡ true → is_of n d a b ≡ false
of_other serial dir n d a b apart here =
    false_unless (is_of n d a b) (λ there.
    let one = is_of-eq serial dir a b here in
    let two = is_of-eq n d a b there in
    false≢true (sym apart ∙ is_of-from serial dir n d (sym two.0 ∙ one.0) (sym two.1 ∙ one.1)))

pub waiter_here : (ps : List PollWaiter) (serial : ℕ) (dir : Dir) (waker : Waker)
    → poll_waiter (without_waiter ps serial dir ++ record { serial = serial; dir = dir; waker = waker } ∷ []) serial dir ≡ Some waker
waiter_here ps serial dir waker =
    ap (option_map (λ (p : PollWaiter). p.waker))
    (pushed_found (λ (p : PollWaiter). is_of serial dir p.serial p.dir) (without_waiter ps serial dir) (record { serial = serial; dir = dir; waker = waker })
    (filtered_lost (λ (p : PollWaiter). is_of serial dir p.serial p.dir) (λ (p : PollWaiter). not (is_of serial dir p.serial p.dir)) ps (λ p among kept. not_true (is_of serial dir p.serial p.dir) kept))
    (is_of-from serial dir serial dir refl refl))

waiter_aside : (ps : List PollWaiter) (serial : ℕ) (dir : Dir) (waker : Waker) (n : ℕ) (d : Dir) → is_of serial dir n d ≡ false
    → poll_waiter (without_waiter ps serial dir ++ record { serial = serial; dir = dir; waker = waker } ∷ []) n d ≡ poll_waiter ps n d
waiter_aside ps serial dir waker n d apart =
    ap (option_map (λ (p : PollWaiter). p.waker))
    (pushed_passed (λ (p : PollWaiter). is_of n d p.serial p.dir) (without_waiter ps serial dir) (record { serial = serial; dir = dir; waker = waker })
    (of_other serial dir n d serial dir apart (is_of-from serial dir serial dir refl refl))
    ∙ filtered_found (λ (p : PollWaiter). is_of n d p.serial p.dir) (λ (p : PollWaiter). not (is_of serial dir p.serial p.dir)) ps
    (λ p among lost. of_other serial dir n d p.serial p.dir apart (of_not (is_of serial dir p.serial p.dir) lost)))

pub mark_gone : (ms : List Mark) (serial : ℕ) (dir : Dir) → mark_of (without_mark ms serial dir) serial dir ≡ None
mark_gone ms serial dir =
    ap (option_map (λ (m : Mark). m.position))
    (filtered_lost (λ (m : Mark). is_of serial dir m.serial m.dir) (λ (m : Mark). not (is_of serial dir m.serial m.dir)) ms (λ m among kept. not_true (is_of serial dir m.serial m.dir) kept))

mark_gone_aside : (ms : List Mark) (serial : ℕ) (dir : Dir) (n : ℕ) (d : Dir) → is_of serial dir n d ≡ false → mark_of (without_mark ms serial dir) n d ≡ mark_of ms n d
mark_gone_aside ms serial dir n d apart =
    ap (option_map (λ (m : Mark). m.position))
    (filtered_found (λ (m : Mark). is_of n d m.serial m.dir) (λ (m : Mark). not (is_of serial dir m.serial m.dir)) ms
    (λ m among lost. of_other serial dir n d m.serial m.dir apart (of_not (is_of serial dir m.serial m.dir) lost)))

pub mark_here : (ms : List Mark) (serial : ℕ) (dir : Dir) (position : ℕ)
    → mark_of (without_mark ms serial dir ++ record { serial = serial; dir = dir; position = position } ∷ []) serial dir ≡ Some position
mark_here ms serial dir position =
    ap (option_map (λ (m : Mark). m.position))
    (pushed_found (λ (m : Mark). is_of serial dir m.serial m.dir) (without_mark ms serial dir) (record { serial = serial; dir = dir; position = position })
    (filtered_lost (λ (m : Mark). is_of serial dir m.serial m.dir) (λ (m : Mark). not (is_of serial dir m.serial m.dir)) ms (λ m among kept. not_true (is_of serial dir m.serial m.dir) kept))
    (is_of-from serial dir serial dir refl refl))

mark_aside : (ms : List Mark) (serial : ℕ) (dir : Dir) (position : ℕ) (n : ℕ) (d : Dir) → is_of serial dir n d ≡ false
    → mark_of (without_mark ms serial dir ++ record { serial = serial; dir = dir; position = position } ∷ []) n d ≡ mark_of ms n d
mark_aside ms serial dir position n d apart =
    ap (option_map (λ (m : Mark). m.position))
    (pushed_passed (λ (m : Mark). is_of n d m.serial m.dir) (without_mark ms serial dir) (record { serial = serial; dir = dir; position = position })
    (of_other serial dir n d serial dir apart (is_of-from serial dir serial dir refl refl)))
    ∙ mark_gone_aside ms serial dir n d apart

-- ## Other directions

pub serial_apart : (serial other : ℕ) (dir d : Dir) → other ≢ serial → is_of serial dir other d ≡ false
serial_apart serial other dir d apart = ap (λ (b : Bool). b && same_dir d dir) (ne_eqb other serial apart)

pub dir_apart : (serial : ℕ) (dir d : Dir) → same_dir d dir ≡ false → is_of serial dir serial d ≡ false
dir_apart serial dir d apart = ap (λ (b : Bool). b && same_dir d dir) (eq-eqb serial serial refl) ∙ apart

pub facts_are : (a b : Facts) → a.waiter ≡ b.waiter → a.since ≡ b.since → a.tick ≡ b.tick → a.polled ≡ b.polled → a ≡ b
facts_are a b e f g h = λ i. record { waiter = e i; since = f i; tick = g i; polled = h i }

pub seen_aside : (w : World) (serial : ℕ) (dir : Dir) (n : ℕ) (d : Dir) → is_of serial dir n d ≡ false
    → facts_in (record w { marks = without_mark w.marks serial dir }) n d ≡ facts_in w n d
seen_aside w serial dir n d apart = facts_are _ _ refl (ap (option_map (rounds_at w.begun)) (mark_gone_aside w.marks serial dir n d apart)) refl refl

pub stored_aside : (w : World) (serial : ℕ) (dir : Dir) (waker : Waker) (n : ℕ) (d : Dir) → is_of serial dir n d ≡ false
    → facts_in (with_waiter w serial dir waker) n d ≡ facts_in w n d
stored_aside w serial dir waker n d apart =
    facts_are _ _ (waiter_aside w.poll_waiters serial dir waker n d apart)
    (ap (option_map (rounds_at w.begun)) (mark_aside w.marks serial dir w.pos n d apart)) refl refl

-- ## Rounds

-- by a position at or after all begins all rounds have begun
pub all_begun : (begun : List ℕ) (position : ℕ) → ((p : ℕ) → Contains begun p → p < position) → rounds_at begun position ≡ length begun
all_begun [] position before = refl
all_begun (p ∷ begun) position before =
    let first = before p (first_is_in p begun) in
    let rest = all_begun begun position (λ q among. before q (later_is_in p begun q among)) in
    rw (le-leb p position (omega arith), rest) (omega arith)
