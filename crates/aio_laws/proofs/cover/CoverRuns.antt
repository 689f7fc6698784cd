-- Every waiter is covered after every run, and in the middle of a whole round too.
use Rattle.std.proofs.Common.{◌≡◌, ℕ, true, ◌&&◌, ◌==◌, List, [], ◌∷◌, ◌++◌, refl, subst, ⊎_elim, append_assoc, append-nil}
use Rattle.std.specs.List.{Contains}
use Rattle.std.proofs.lemmas.Bool.{and_from, eq-eqb}
use Rattle.aio_base.specs.declared.names.Dir.{Dir}
use Rattle.aio_base.specs.declared.names.Event.{Event}
use Rattle.aio_base.specs.declared.steps.Answer.{Answer}
use Rattle.aio_base.specs.World.{PollWaiter, ListenerEntry, ArmedDirection, BrokenSource, World, same_dir, is_armed, opening}
use Rattle.aio_base.specs.Machine.{hand_of}
use Rattle.aio_base.specs.Runs.{PolledStep, outcome_of, answers_of, world_of}
use Rattle.aio_laws.specs.Covered.{tells_at, Cover, IsArmed, InHand, FaultIsTold, Covered, HasSource, WaitsForLive}
use Rattle.aio_base.proofs.Membership.{none_is_in, each_in, any_from}
use Rattle.aio_base.proofs.DirectionLemmas.{same_dir-from}
use Rattle.aio_base.proofs.WaiterLemmas.{serial_of-live, waiter_wants}
use Rattle.aio_laws.proofs.cover.Standing.{parts_of, Holds, Armed, Handed, Broken, BrokenTold, Standing}
use Rattle.aio_laws.proofs.cover.CoverSteps.{step_result_stands}

-- ## What stands makes sure of cover

armed_is : (w : World) (key : ℕ) (dir : Dir) → Contains w.armed (record { key = key; dir = dir }) → is_armed w.armed key dir ≡ true
armed_is w key dir among =
    any_from (λ (a : ArmedDirection). (a.key == key) && same_dir a.dir dir) w.armed (record { key = key; dir = dir }) among
    (and_from (key == key) (same_dir dir dir) (eq-eqb key key refl) (same_dir-from dir dir refl))

at_serial : (w : World) (b : BrokenSource) (serial : ℕ) → b.serial ≡ serial → Contains w.broken b → Contains w.broken (record { serial = serial; position = b.position })
at_serial w b serial same among = subst (λ n. Contains w.broken (record { serial = n; position = b.position })) same among

cover_of : (w : World) (told : List Answer) (key serial : ℕ) (dir : Dir) → BrokenTold (parts_of w) told ⊥ → Holds (parts_of w) key serial dir
    → Cover w told key serial dir
cover_of w told key serial dir broken (Armed among) = IsArmed (armed_is w key dir among)
cover_of w told key serial dir broken (Handed e among same) =
    InHand (any_from (λ (e : Event). e.key.0 == key) (hand_of w.round) e among (eq-eqb e.key.0 key same))
cover_of w told key serial dir broken (Broken b among same) =
    ⊎_elim
    (λ (tells : tells_at told b.position ≡ true). FaultIsTold b.position (at_serial w b serial same among) tells)
    (λ (never : (b.position ≡ w.pos) × ⊥). absurd never.1)
    (broken b among)

standing_covers : (w : World) (told : List Answer) → Standing (parts_of w) told ⊥ → Covered w told
standing_covers w told s key serial dir waiter named among =
    cover_of w told key serial dir s.broken_told (s.covers key serial dir (serial_of-live w key serial named) (waiter_wants w serial dir waiter among))

-- ## Runs

run_stands : (run : List PolledStep) (w : World) (told : List Answer) → Standing (parts_of w) told ⊥
    → Standing (parts_of (world_of w run)) (told ++ answers_of w run) ⊥
run_stands [] w told s = rw append-nil s
run_stands (step ∷ run) w told s =
    let after = step_result_stands w told step.step step.answers s in
    let rest = run_stands run (outcome_of w step).world (told ++ (outcome_of w step).answer ∷ []) after in
    subst (λ answers. Standing (parts_of (world_of (outcome_of w step).world run)) answers ⊥)
    (append_assoc told ((outcome_of w step).answer ∷ []) (answers_of (outcome_of w step).world run)) rest

opening_stands : Standing (parts_of opening) [] ⊥
opening_stands = record {
  counted = refl;
  ordered = record {
    keys_differ = λ a b first second same. none_is_in a first;
    serials_differ = λ a b first second same. none_is_in a first;
    serials_given = λ a among. none_is_in a among;
    polls_live = λ q among. none_is_in q among;
    listeners_live = λ l among. none_is_in l among;
    numbers_drawn = λ l among. none_is_in l among;
    numbers_differ = λ a b first second same. none_is_in a first;
  };
  broken_told = λ b among. none_is_in b among;
  covers = λ k n dir lives wants. none_is_in _ lives;
}

after_run : (run : List PolledStep) → Standing (parts_of (world_of opening run)) (answers_of opening run) ⊥
after_run run = run_stands run opening [] opening_stands

pub run_covers : (run : List PolledStep) → Covered (world_of opening run) (answers_of opening run)
run_covers run = standing_covers (world_of opening run) (answers_of opening run) (after_run run)

pub run_waits_for_live : (run : List PolledStep) → WaitsForLive (world_of opening run)
run_waits_for_live run =
    let w = world_of opening run in
    let o = (after_run run).ordered in
    record {
      poll_waiters = each_in (λ (p : PollWaiter). HasSource w.live p.serial) w.poll_waiters o.polls_live;
      listeners = each_in (λ (l : ListenerEntry). HasSource w.live l.serial) w.listeners o.listeners_live;
    }
