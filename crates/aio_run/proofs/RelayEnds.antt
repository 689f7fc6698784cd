-- What the end of a relay says of the cause for which the program ends.
use Rattle.std.proofs.Common.{◌≡◌, ◌≢◌, ℕ, Bool, false, IsTrue, List, [], ◌∷◌, Result, Ok, Err, refl, ap, subst}
use Rattle.std.specs.Prelude.{IfErr}
use Rattle.aio_base.specs.Devices.{TellsFaults}
use Rattle.aio_line.specs.Words.{IsRelay, IsServable}
use Rattle.aio_line.specs.declared.words.RelayOrder.{RelayOrder}
use Rattle.aio_serve.specs.Relays.{HasRelayCause, has_output_failed}
use Rattle.aio_serve.specs.declared.relaying.RelayStop.{RelayStop}
use Rattle.aio_serve.specs.declared.relaying.RelayStop.TheVariants as stop
use Rattle.aio_serve.specs.declared.server.ServeFault.TheVariants as fault
use Rattle.aio_replay.specs.Driving.{Causes}
use Rattle.aio_commands.specs.declared.status.Why.TheVariants as why
use Rattle.aio_commands.specs.Commands.{TellsCounts, is_read_fault, is_write_fault}
use Rattle.aio_run.specs.Relaying.{why_relayed}

pub never_usage : (r : Result (Unit {0}) RelayStop) → why_relayed r ≢ why.Usage
never_usage (Ok done) is = absurd cc
never_usage (Err (stop.Bind f)) is = absurd cc
never_usage (Err (stop.Served (fault.Port f))) is = absurd cc
never_usage (Err (stop.Served (fault.Wait f))) is = absurd cc
never_usage (Err (stop.Served (fault.Notify f))) is = absurd cc
never_usage (Err (stop.Served fault.OutOfMemory)) is = absurd cc
never_usage (Err (stop.Output f)) is = absurd cc
never_usage (Err stop.OutOfMemory) is = absurd cc

pub reads_nothing : (r : Result (Unit {0}) RelayStop) → is_read_fault (why_relayed r) ≡ false
reads_nothing (Ok done) = refl
reads_nothing (Err (stop.Bind f)) = refl
reads_nothing (Err (stop.Served (fault.Port f))) = refl
reads_nothing (Err (stop.Served (fault.Wait f))) = refl
reads_nothing (Err (stop.Served (fault.Notify f))) = refl
reads_nothing (Err (stop.Served fault.OutOfMemory)) = refl
reads_nothing (Err (stop.Output f)) = refl
reads_nothing (Err stop.OutOfMemory) = refl

same_failure : (r : Result (Unit {0}) RelayStop) → has_output_failed r ≡ is_write_fault (why_relayed r)
same_failure (Ok done) = refl
same_failure (Err (stop.Bind f)) = refl
same_failure (Err (stop.Served (fault.Port f))) = refl
same_failure (Err (stop.Served (fault.Wait f))) = refl
same_failure (Err (stop.Served (fault.Notify f))) = refl
same_failure (Err (stop.Served fault.OutOfMemory)) = refl
same_failure (Err (stop.Output f)) = refl
same_failure (Err stop.OutOfMemory) = refl

pub write_cause : {S : Type 0} (count : S → ℕ) (is_sure : S → Bool) (old new : S) (r : Result (Unit {0}) RelayStop)
    → TellsFaults count is_sure old new (IsTrue (has_output_failed r)) → Causes count is_sure old new (is_write_fault (why_relayed r))
write_cause count is_sure old new r tells = subst (λ (b : Bool). TellsFaults count is_sure old new (IsTrue b)) (same_failure r) tells

pub tells_counts : (pb pa : ℕ) (sw sn : Bool) (before after reads : ℕ) (r : Result (Unit {0}) RelayStop) → IfErr r (HasRelayCause pb pa sw sn before after)
    → TellsCounts (why_relayed r) reads reads before after
tells_counts pb pa sw sn before after reads (Ok done) cause = tt
tells_counts pb pa sw sn before after reads (Err (stop.Bind f)) cause = tt
tells_counts pb pa sw sn before after reads (Err (stop.Served (fault.Port f))) cause = tt
tells_counts pb pa sw sn before after reads (Err (stop.Served (fault.Wait f))) cause = tt
tells_counts pb pa sw sn before after reads (Err (stop.Served (fault.Notify f))) cause = tt
tells_counts pb pa sw sn before after reads (Err (stop.Served fault.OutOfMemory)) cause = tt
tells_counts pb pa sw sn before after reads (Err (stop.Output f)) cause = let is = cause.0 in (ap (λ g. g.before) is, ap (λ g. g.after) is)
tells_counts pb pa sw sn before after reads (Err stop.OutOfMemory) cause = tt

-- the words of a relay ask for one that can be served
pub words_are_servable : (words : List (List ℕ)) (order : RelayOrder) → IsRelay order words → IsServable order
words_are_servable [] order is = absurd is
words_are_servable (a ∷ []) order is = absurd is
words_are_servable (a ∷ b ∷ []) order is = absurd is
words_are_servable (a ∷ b ∷ c ∷ []) order is = absurd is
words_are_servable (a ∷ b ∷ c ∷ d ∷ []) order is = absurd is
words_are_servable (a ∷ b ∷ c ∷ d ∷ e ∷ []) order is = record {
  some_workers = is.2.1;
  few_workers = is.2.0.1;
  some_idle = is.3.1;
  bounded_idle = is.3.0.1;
  some_pairs = is.4.1;
  few_pairs = is.4.0.1;
}
words_are_servable (a ∷ b ∷ c ∷ d ∷ e ∷ f ∷ words) order is = absurd is
