-- A new listener of a core meets the machine's, and keeps what sources and listeners are to one another.
use Rattle.std.proofs.Common.{◌≡◌, ◌≢◌, ℕ, ◌+◌, ◌≤◌, Bool, true, false, if◌then◌else◌, ◌==◌, List, [], ◌∷◌, ◌++◌, length, slice_set, Option, None, Some, IfSome, refl, sym, ap, ◌∙◌, subst, arith, ⊎_elim}
use Rattle.std.proofs.lemmas.Bool.{cases_eq, eq-eqb, ne_eqb}
use Rattle.aio_base.specs.declared.names.Dir.{Dir}
use Rattle.aio_base.specs.declared.names.Key.{Key}
use Rattle.aio_base.specs.declared.steps.Answer.TheVariants as replies
use Rattle.aio_base.specs.declared.steps.Step.TheVariants as step
use Rattle.aio_base.specs.Devices.{Interests, PollerMove}
use Rattle.aio_base.specs.Machine.{new_listener}
use Rattle.aio_base.specs.World.{is_broken}
use Rattle.aio_listen.specs.declared.ticket.Ticket.{Ticket}
use Rattle.aio_react.specs.declared.entries.Listener.{Listener}
use Rattle.aio_react.specs.declared.entries.SourceEntry.{SourceEntry}
use Rattle.aio_react.specs.Cores.{CoreValue, entry_at, AreListed, IsListenedTo, HaveOwnTickets, ticket_of, count_of}
use Rattle.aio_facts.specs.Facts.{facts_in, serial_in}
use Rattle.aio_react.specs.Meeting.{Meets}
use Rattle.aio_react.specs.Numbers.{value_of}
use Rattle.aio_react.proofs.sources.ArmMeets.{Within, step_comes}
use Rattle.aio_react.proofs.listeners.HeldSources.{Keeps, heard_again}
use Rattle.aio_react.proofs.steps.Later.{quiet_comes, stands_inside}
use Rattle.aio_react.proofs.listeners.NewListeners.{counted, new_listener_of, with_new_listener, listen_stands, pushed_length, new_value, old_value}
use Rattle.aio_react.proofs.sources.PollMeets.{serial_by, no_serial_by}
use Rattle.aio_react.proofs.sources.SourceChanges.{place_here, place_aside}

pub listen_meets : {P : Type 0} (poller_step : P → PollerMove → P → Type 0) (tells : P → Option Interests) (poller : P) (core : CoreValue) (key : Key) (dir : Dir) (e : SourceEntry) (number : ℕ)
    → entry_at core.sources key.0 ≡ Some e → number ≡ length core.listeners + 1
    → Meets poller_step tells (step.New key dir) None (replies.Listener number) [] None (poller, core) (poller, with_new_listener core e key dir)
listen_meets {P = P} poller_step tells poller core key dir e number is next = record {
  moves = [];
  run = refl;
  waits = tt;
  comes = λ w later stands now.
      let serial = serial_by core.listeners (entry_at core.sources key.0) (serial_in w.live key.0) (is_broken w) (facts_in w) e is (stands.sources key.0) in
      step_comes w (step.New key dir) later (replies.Listener number) [] [] later (tells poller) (with_new_listener core e key dir)
      (subst (λ (n : Option ℕ). Within (new_listener w dir n later) (replies.Listener number) [] [] later (tells poller) (with_new_listener core e key dir)) (sym serial.1)
      (record {
        answer_is = ap replies.Listener (ap (λ n. n + 1) stands.listeners.drawn_is ∙ sym next);
        wakes_are = refl;
        calls_are = refl;
        left_are = refl;
        stands = listen_stands (w.pos + 1) (tells poller) core w key dir serial.0 e (stands_inside (tells poller) core w stands) is serial.1;
      }));
}

pub listen_misses : {P : Type 0} (poller_step : P → PollerMove → P → Type 0) (tells : P → Option Interests) (poller : P) (core : CoreValue) (key : Key) (dir : Dir)
    → entry_at core.sources key.0 ≡ None → Meets poller_step tells (step.New key dir) None replies.NoSource [] None (poller, core) (poller, core)
listen_misses {P = P} poller_step tells poller core key dir is = record {
  moves = [];
  run = refl;
  waits = tt;
  comes = λ w later stands now.
      quiet_comes (tells poller) core w (step.New key dir) replies.NoSource later
      (ap (λ (n : Option ℕ). new_listener w dir n later)
      (no_serial_by core.listeners (entry_at core.sources key.0) (serial_in w.live key.0) (is_broken w) (facts_in w) is (stands.sources key.0))) stands;
}

pub next_number : (number : ℕ) (listeners after : List (Option Listener)) (l : Option Listener) → number ≡ length after → after ≡ listeners ++ l ∷ [] → number ≡ length listeners + 1
next_number number listeners after l is pushed = is ∙ ap (λ (ls : List (Option Listener)). length ls) pushed ∙ pushed_length listeners l

-- ## What sources and listeners are to one another

one_at_most : (b : Bool) → (if b then 1 else 0) ≤ 1
one_at_most true = omega arith
one_at_most false = omega arith

count_within : (key : ℕ) (listeners : List (Option Listener)) → count_of key listeners ≤ length listeners
count_within key [] = omega arith
count_within key (None ∷ listeners) = omega (arith, count_within key listeners)
count_within key (Some l ∷ listeners) = omega (arith, count_within key listeners, one_at_most (l.key.0 == key))

count_pushed : (key : ℕ) (listeners : List (Option Listener)) (l : Listener) → count_of key (listeners ++ Some l ∷ []) ≡ count_of key listeners + (if l.key.0 == key then 1 else 0)
count_pushed key [] l = omega arith
count_pushed key (None ∷ listeners) l = count_pushed key listeners l
count_pushed key (Some m ∷ listeners) l = omega (arith, count_pushed key listeners l)

pub count_at : (sources : List (Option SourceEntry)) (listeners : List (Option Listener)) (key : ℕ) (e : SourceEntry) → entry_at sources key ≡ Some e → AreListed sources listeners
    → e.listeners ≡ count_of key listeners
count_at sources listeners key e is listed = subst (λ (place : Option SourceEntry). IfSome place (λ (e : SourceEntry). e.listeners ≡ count_of key listeners)) is (listed.counted key)

-- a source has no more listeners than numbers were given
pub few_listeners : (sources : List (Option SourceEntry)) (listeners : List (Option Listener)) (key : ℕ) (e : SourceEntry) → entry_at sources key ≡ Some e → AreListed sources listeners
    → e.listeners ≤ length listeners
few_listeners sources listeners key e is listed = omega (arith, count_at sources listeners key e is listed, count_within key listeners)

no_ticket_before : (key : Key) (dir : Dir) (other : Option Listener) → IfSome other (λ (m : Listener). HaveOwnTickets (new_listener_of key dir) m)
no_ticket_before key dir None = tt
no_ticket_before key dir (Some m) = λ same there. tt

differs_from_none : (ticket : Option Ticket) → IfSome ticket (λ (t : Ticket). None ≢ Some t)
differs_from_none None = tt
differs_from_none (Some t) = λ same. absurd (cc)

pair_new : (key : Key) (dir : Dir) (other : Option Listener) → IfSome other (λ (l : Listener). IfSome (Some (new_listener_of key dir)) (λ (m : Listener). HaveOwnTickets l m))
pair_new key dir None = tt
pair_new key dir (Some l) = λ same there. differs_from_none (ticket_of l)

plus_nothing : (n : ℕ) → n + 0 ≡ n
plus_nothing n = omega arith

counts_same : (place : Option SourceEntry) (a b : ℕ) → b ≡ a → IfSome place (λ (e : SourceEntry). e.listeners ≡ a) → IfSome place (λ (e : SourceEntry). e.listeners ≡ b)
counts_same None a b same is = tt
counts_same (Some e) a b same is = is ∙ sym same

pub listed_more : (sources : List (Option SourceEntry)) (listeners : List (Option Listener)) (key : Key) (dir : Dir) (e : SourceEntry) → entry_at sources key.0 ≡ Some e → AreListed sources listeners
    → AreListed (slice_set sources key.0 (Some (counted e))) (listeners ++ Some (new_listener_of key dir) ∷ [])
listed_more sources listeners key dir e is listed =
    let l = new_listener_of key dir in
    let next = length listeners + 1 in
    let sources' = slice_set sources key.0 (Some (counted e)) in
    let kept : Keeps e.source e.source = record { key_is = refl; listeners = λ d. refl } in
    let value : ℕ → Option Listener = λ n. value_of (listeners ++ Some l ∷ []) n in
    record {
      heard = λ n. ⊎_elim
          (λ (here : n ≡ next). subst (λ (v : Option Listener). IfSome v (λ (m : Listener). IsListenedTo (entry_at sources' m.key.0) m)) (sym (new_value listeners l n here))
          (subst (λ (place : Option SourceEntry). IsListenedTo place l) (sym (place_here sources key.0 e (Some (counted e)) is)) tt))
          (λ (other : n ≢ next). subst (λ (v : Option Listener). IfSome v (λ (m : Listener). IsListenedTo (entry_at sources' m.key.0) m)) (sym (old_value listeners l n other))
          (heard_again sources key.0 e (counted e) is kept (value_of listeners n) (listed.heard n)))
          (cases_eq n next);
      counted = λ k. ⊎_elim
          (λ (here : k ≡ key.0). subst (λ n. IfSome (entry_at sources' n) (λ (e : SourceEntry). e.listeners ≡ count_of n (listeners ++ Some l ∷ []))) (sym here)
          (subst (λ (place : Option SourceEntry). IfSome place (λ (e : SourceEntry). e.listeners ≡ count_of key.0 (listeners ++ Some l ∷ []))) (sym (place_here sources key.0 e (Some (counted e)) is))
          (ap (λ n. n + 1) (count_at sources listeners key.0 e is listed) ∙ sym (count_pushed key.0 listeners l ∙ ap (λ (b : Bool). count_of key.0 listeners + (if b then 1 else 0)) (eq-eqb key.0 key.0 refl)))))
          (λ (apart : k ≢ key.0). subst (λ (place : Option SourceEntry). IfSome place (λ (e : SourceEntry). e.listeners ≡ count_of k (listeners ++ Some l ∷ []))) (sym (place_aside sources key.0 k (Some (counted e)) apart))
          (counts_same (entry_at sources k) (count_of k listeners) (count_of k (listeners ++ Some l ∷ []))
          (count_pushed k listeners l ∙ ap (λ (b : Bool). count_of k listeners + (if b then 1 else 0)) (ne_eqb key.0 k (λ (same : key.0 ≡ k). apart (sym same))) ∙ plus_nothing (count_of k listeners)) (listed.counted k)))
          (cases_eq k key.0);
      apart = λ a b differ. ⊎_elim
          (λ (here : a ≡ next). subst (λ (v : Option Listener). IfSome v (λ (m : Listener). IfSome (value b) (λ (n : Listener). HaveOwnTickets m n))) (sym (new_value listeners l a here)) (no_ticket_before key dir (value b)))
          (λ (other : a ≢ next). subst (λ (v : Option Listener). IfSome v (λ (m : Listener). IfSome (value b) (λ (n : Listener). HaveOwnTickets m n))) (sym (old_value listeners l a other))
          (⊎_elim
          (λ (there : b ≡ next). subst (λ (u : Option Listener). IfSome (value_of listeners a) (λ (m : Listener). IfSome u (λ (n : Listener). HaveOwnTickets m n))) (sym (new_value listeners l b there)) (pair_new key dir (value_of listeners a)))
          (λ (else_where : b ≢ next). subst (λ (u : Option Listener). IfSome (value_of listeners a) (λ (m : Listener). IfSome u (λ (n : Listener). HaveOwnTickets m n))) (sym (old_value listeners l b else_where)) (listed.apart a b differ))
          (cases_eq b next)))
          (cases_eq a next);
    }
