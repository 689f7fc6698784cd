-- Who waits on after an event has taken waiters of its source.
use Rattle.std.proofs.Common.{◌≡◌, ℕ, Bool, true, false, cond, ◌&&◌, ◌||◌, ◌==◌, List, [], ◌∷◌, ◌++◌, map, Option, None, option_to_list, refl, ap, ◌∙◌, sym}
use Rattle.std.specs.List.{cons_option, list_any}
use Rattle.aio_base.specs.declared.names.Waker.{Waker}
use Rattle.aio_base.specs.declared.names.Dir.{Dir}
use Rattle.aio_base.specs.declared.names.Interest.{Interest}
use Rattle.aio_base.specs.World.{ListenerEntry, World, directions_of, has_dir, same_dir, is_of, poll_waiter, listener_wakers, is_empty_list, is_idle}
use Rattle.aio_base.specs.Machine.{without_waiters, world_taken}
use Rattle.aio_base.proofs.DirectionLemmas.{own_among_directions}
use Rattle.aio_base.proofs.Searching.{false_unless}
use Rattle.aio_base.proofs.WaiterLemmas.{is_of-eq, is_of-from}
use Rattle.aio_laws.proofs.storings.HeldEvents.{polls_cleared}

-- ## One direction

none_of_none : (here : Bool) → ◌≡◌ {A = Option Waker} (cond here None None) None
none_of_none true = refl
none_of_none false = refl

-- what a listener holds for a direction once another direction's listeners hold nothing
one_silent : (serial : ℕ) (dir : Dir) (n : ℕ) (d : Dir) (l : ListenerEntry) (own here : Bool) → is_of serial dir l.serial l.dir ≡ own → is_of serial dir n d ≡ here
    → (let m : ListenerEntry = cond own (record l { waker = None }) l in cond (is_of n d m.serial m.dir) m.waker None)
    ≡ cond here None (cond (is_of n d l.serial l.dir) l.waker None)
one_silent serial dir n d l true true at is = none_of_none (is_of n d l.serial l.dir)
one_silent serial dir n d l true false at is =
    let other : is_of n d l.serial l.dir ≡ false =
    false_unless (is_of n d l.serial l.dir) (λ (here : is_of n d l.serial l.dir ≡ true).
    let a = is_of-eq serial dir l.serial l.dir at in
    let b = is_of-eq n d l.serial l.dir here in
    let same = is_of-from serial dir n d (sym b.0 ∙ a.0) (sym b.1 ∙ a.1) in
    let wrong : true ≡ false = sym same ∙ is in cc) in
    none_of_none (is_of n d l.serial l.dir) ∙ sym (ap (λ test. cond test l.waker None) other)
one_silent serial dir n d l false true at is =
    let other : is_of n d l.serial l.dir ≡ false =
    false_unless (is_of n d l.serial l.dir) (λ (here : is_of n d l.serial l.dir ≡ true).
    let a = is_of-eq serial dir n d is in
    let b = is_of-eq n d l.serial l.dir here in
    let same = is_of-from serial dir l.serial l.dir (b.0 ∙ a.0) (b.1 ∙ a.1) in
    let wrong : true ≡ false = sym same ∙ at in cc) in
    ap (λ test. cond test l.waker None) other
one_silent serial dir n d l false false at is = refl

either_empty : (here : Bool) (o : Option Waker) (ws : List Waker) → cons_option (cond here None o) (cond here [] ws) ≡ cond here [] (cons_option o ws)
either_empty true o ws = refl
either_empty false o ws = refl

all_silent : (serial : ℕ) (dir : Dir) (n : ℕ) (d : Dir) (here : Bool) (listeners : List ListenerEntry) → is_of serial dir n d ≡ here
    → listener_wakers (map (λ (l : ListenerEntry). cond (is_of serial dir l.serial l.dir) (record l { waker = None }) l) listeners) n d
    ≡ cond here [] (listener_wakers listeners n d)
all_silent serial dir n d true [] is = refl
all_silent serial dir n d false [] is = refl
all_silent serial dir n d here (l ∷ listeners) is =
    let f : ListenerEntry → ListenerEntry = λ l. cond (is_of serial dir l.serial l.dir) (record l { waker = None }) l in
    ap (λ o. cons_option o (listener_wakers (map f listeners) n d)) (one_silent serial dir n d l (is_of serial dir l.serial l.dir) here refl is)
    ∙ ap (cons_option (cond here None (cond (is_of n d l.serial l.dir) l.waker None))) (all_silent serial dir n d here listeners is)
    ∙ either_empty here (cond (is_of n d l.serial l.dir) l.waker None) (listener_wakers listeners n d)

or_true : (test : Bool) → true ≡ (test || true)
or_true true = refl
or_true false = refl

or_false : (test : Bool) → test ≡ (test || false)
or_false true = refl
or_false false = refl

or_later : (a b c : Bool) → ((a || b) || c) ≡ (a || (b || c))
or_later true b c = refl
or_later false b c = refl

empty_by : (here : Bool) (o : Option Waker) (ws : List Waker)
    → is_empty_list (option_to_list (cond here None o) ++ cond here [] ws) ≡ (is_empty_list (option_to_list o ++ ws) || here)
empty_by true o ws = or_true (is_empty_list (option_to_list o ++ ws))
empty_by false o ws = or_false (is_empty_list (option_to_list o ++ ws))

idle_without : (u : World) (serial begin : ℕ) (dir : Dir) (n : ℕ) (d : Dir)
    → is_idle (without_waiters u serial begin dir) n d ≡ (is_idle u n d || is_of serial dir n d)
idle_without u serial begin dir n d =
    let here : Bool = is_of serial dir n d in
    let v : World = without_waiters u serial begin dir in
    ap (λ o. is_empty_list (option_to_list o ++ listener_wakers v.listeners n d)) (polls_cleared u.poll_waiters serial dir n d)
    ∙ ap (λ ws. is_empty_list (option_to_list (cond here None (poll_waiter u.poll_waiters n d)) ++ ws)) (all_silent serial dir n d here u.listeners refl)
    ∙ empty_by here (poll_waiter u.poll_waiters n d) (listener_wakers u.listeners n d)

-- ## The directions of an event

idle_taken : (dirs : List Dir) (u : World) (serial begin : ℕ) (n : ℕ) (d : Dir)
    → is_idle (world_taken u serial begin dirs) n d ≡ (is_idle u n d || list_any (λ dir. is_of serial dir n d) dirs)
idle_taken [] u serial begin n d = or_false (is_idle u n d)
idle_taken (dir ∷ dirs) u serial begin n d =
    idle_taken dirs (without_waiters u serial begin dir) serial begin n d
    ∙ ap (λ idle. idle || list_any (λ e. is_of serial e n d) dirs) (idle_without u serial begin dir n d)
    ∙ or_later (is_idle u n d) (is_of serial dir n d) (list_any (λ e. is_of serial e n d) dirs)

pub idle_after_event : (u : World) (on : Interest) (serial begin : ℕ) (n : ℕ) (d : Dir)
    → is_idle (world_taken u serial begin (directions_of on)) n d ≡ (is_idle u n d || ((n == serial) && has_dir on d))
idle_after_event u on serial begin n d =
    idle_taken (directions_of on) u serial begin n d ∙ ap (λ any. is_idle u n d || any) (own_among_directions (n == serial) on d)
