-- What calls come to that have no work, and what the host's notifier tells of an insert.
use Rattle.std.proofs.Common.{◌≡◌, ℕ, Bool, true, false, IsTrue, ◌&&◌, None, Some, is_some, refl, arith}
use Rattle.aio_base.specs.declared.names.Waker.{Waker}
use Rattle.aio_base.specs.World.{is_waker}
use Rattle.aio_base.specs.TimerWork.{no_work, waiting}
use Rattle.std.proofs.lemmas.Bool.{false≢true}
use Rattle.aio_future.specs.declared.answers.TimerFault.TheVariants.{IdsSpent}
use Rattle.aio_base.specs.Hosts.{HostRules}
use Rattle.aio_future.specs.Timers.{TimerValue, state_of, poll_work, Worked}

-- a timer that is registered with the waker waits on
pub waiting-kept : (timer : TimerValue) (deadline : ℕ) (waker : Waker) → (is_some timer.id && is_waker waker timer.kept) ≡ true →
    waiting (is_some timer.id) (state_of timer) deadline waker ≡ no_work
waiting-kept timer deadline waker kept = rw kept refl

-- a poll of a timer with no deadline has no work
pub polling-never : (timer : TimerValue) (now : ℕ) (waker : Waker) → timer.deadline ≡ None → poll_work timer now waker ≡ no_work
polling-never timer now waker never = rw never refl

-- a call with no work leaves timer and host as they are
pub Worked-nothing : {H : Type 0} (rules : HostRules H) (later : H → H → Type 0) (sure : H → Bool) (host : H) (timer : TimerValue) →
    later host host → Worked rules later sure no_work host host timer timer None
Worked-nothing rules later sure host timer itself =
    record {
      spent = (λ (told : None ≡ Some IdsSpent). absurd (cc), λ (lacks : IsTrue false). absurd (false≢true lacks));
      carried = record { mid = host; removal = refl; insertion = refl; timer = refl };
      ids = refl;
      cause = record {
        later = omega arith;
        rose = λ (told : IsTrue false). absurd (false≢true told);
        never = λ s. (λ (told : IsTrue false). absurd (false≢true told), refl);
      };
      is_later = itself;
      same_pass = refl;
    }
