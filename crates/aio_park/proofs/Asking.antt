-- Polls of a task, one after the other, and the masks that the member took between them.
use Rattle.std.proofs.Common.{◌≡◌, ◌^◌, ◌-◌, ◌+◌, ◌≤◌, ℕ, zero, suc, Bool, [], ◌∷◌, ◌++◌, length, length-append, refl, sym, ap, ◌∙◌, subst, append-nil, append_assoc, le_refl, le_trans, arith}
use Rattle.std.specs.Prelude.{Result, Ok, Err}
use Rattle.aio_base.specs.declared.outcomes.Poll.{Poll}
use Rattle.aio_base.specs.declared.outcomes.Poll.TheVariants.{Ready, Pending}
use Rattle.aio_base.specs.declared.tasks.Cx.{Cx}
use Rattle.aio_base.specs.ClockBounds.{ClockBounds}
use Rattle.aio_base.specs.Polls.{IfReady, WhilePending}
use Rattle.aio_shared.specs.declared.reacting.ReactFault.{ReactFault}
use Rattle.aio_shared.specs.Inside.{InsideValue}
use Rattle.aio_shared.specs.Members.{Extends, MemberValue}
use Rattle.aio_park.specs.Blocking.{Clocked, Gains, GainsOneAtMost, IsPast, PollsAtNow, PolledUntil, PollsInTurn, PollsWith, gained, taken_of}
use Rattle.aio_park.specs.Polls.{Polled}
use Rattle.aio_park.proofs.Gaining.{gained_is, own-append}

-- ## Moments

abbrev pub clocked : ClockBounds → ℕ → ℕ → Clocked
clocked bounds before after = record { bounds = bounds; before = before; after = after }

told_between : (parker : ℕ) (bounds : ClockBounds) (first before after last : ℕ) (cx : Cx) → first ≤ before → after ≤ last → PollsAtNow parker (clocked bounds before after) cx → PollsAtNow parker (clocked bounds first last) cx
told_between parker bounds first before after last cx least most told = record {
  parker_is = told.parker_is;
  within = told.within;
  earliest = le_trans least told.earliest;
  latest = le_trans told.latest most;
}

-- ## Polls

module _ {N T O : Type 0} (step : T → InsideValue N → Cx → Poll O → T → InsideValue N → Type 0) (gives : T → Bool → ℕ → O → Type 0) where
  -- a poll is also one of a clock that is looked at for longer
  pub poll_within : (parker mask : ℕ) (bounds : ClockBounds) (first before after last : ℕ) (old : T) (host : InsideValue N) (answer : Poll O) (new : T) (left : InsideValue N) → first ≤ before → after ≤ last
      → PollsWith step parker (clocked bounds before after) mask old host answer new left → PollsWith step parker (clocked bounds first last) mask old host answer new left
  poll_within parker mask bounds first before after last old host answer new left least most q =
      record { cx = q.cx; told = told_between parker bounds first before after last q.cx least most q.told; mask_is = q.mask_is; polled = q.polled }

  -- the same bounds, and as sure
  pub polled_as : {parker mask : ℕ} {bounds other : ClockBounds} {first last : ℕ} {sure still : Bool} {old : T} {host : InsideValue N} {answer : Poll O} {new : T} {left : InsideValue N} → other ≡ bounds → still ≡ sure
      → Polled step gives parker mask (clocked other first last) still old host answer new left → Polled step gives parker mask (clocked bounds first last) sure old host answer new left
  polled_as {parker} {mask} {first = first} {last = last} {old = old} {host = host} {answer = answer} {new = new} {left = left} same still_is polled =
      subst (λ (x : ClockBounds × Bool). Polled step gives parker mask (clocked x.0 first last) x.1 old host answer new left) (λ i. (same i, still_is i)) polled

-- turns of a clock that is looked at until a moment are also ones where it is looked at until a later one
abbrev pub Widens : {N : Type 0} → (Clocked → MemberValue N → MemberValue N → Result ℕ ReactFault → Type 0) → Type 0
Widens {N} turns = (bounds : ClockBounds) (first last stop : ℕ) (m later : MemberValue N) (answer : Result ℕ ReactFault) → last ≤ stop
    → turns (clocked bounds first last) m later answer → turns (clocked bounds first stop) m later answer

module _ {N T O : Type 0} (step : T → InsideValue N → Cx → Poll O → T → InsideValue N → Type 0) (gives : T → Bool → ℕ → O → Type 0)
    (turns : Clocked → MemberValue N → MemberValue N → Result ℕ ReactFault → Type 0) where
  -- and so is a chain of polls, if the turns between them are
  polls_within : Widens turns → (parker : ℕ) (bounds : ClockBounds) (first last stop polls : ℕ) (old : T) (host : InsideValue N) (mask : ℕ) (new : T) (later : InsideValue N) → last ≤ stop
      → PollsInTurn step turns parker (clocked bounds first last) polls old host mask new later → PollsInTurn step turns parker (clocked bounds first stop) polls old host mask new later
  polls_within wider parker bounds first last stop zero old host mask new later on chain = chain
  polls_within wider parker bounds first last stop (suc polls) old host mask new later on (before, task, by, front, link) = (
    before,
    task,
    by,
    polls_within wider parker bounds first last stop polls old host before task by on front,
    record {
      left = link.left;
      polls = poll_within step gives parker before bounds first first last stop task by Pending new link.left (le_refl first) on link.polls;
      takes = link.takes;
      turned = wider bounds first last stop link.left.member later.member (Ok mask) on link.turned;
    },
  )

  -- Polls of a task that all answered Pending, before one with this mask, and what the task allows then.
  pub record Polling (parker mask : ℕ) (bounds : ClockBounds) (first last : ℕ) (sure : Bool) (was now : InsideValue N) (old new : T) (before after : ℕ) : Type 0 where
    pub polls : ℕ
    pub chain : PollsInTurn step turns parker (clocked bounds first last) polls old was mask new now
    pub did : Extends was.member.pass.view.did now.member.pass.view.did
    pub took : polls ≤ length (taken_of parker did.0)
    pub allows : (moment : ℕ) (output : O) → IsPast bounds moment → gives new sure moment output → gives old sure moment output
    pub count : after ≤ before + polls

  pub polling_starts : {parker : ℕ} {bounds : ClockBounds} {first : ℕ} {sure : Bool} {host : InsideValue N} {task : T} {count : ℕ}
      → Polling parker (2 ^ 64 - 1) bounds first first sure host host task task count count
  polling_starts {host = host} = record {
    polls = zero;
    chain = (refl, refl, refl);
    did = ([], sym (append-nil host.member.pass.view.did));
    took = omega arith;
    allows = λ moment output past given. given;
    count = omega arith;
  }

  module _ {parker mask : ℕ} {bounds : ClockBounds} {first last : ℕ} {sure : Bool} {was now : InsideValue N} {old mid : T} {before after : ℕ}
      (p : Polling parker mask bounds first last sure was now old mid before after)
      {answer : Poll O} {new : T} {left : InsideValue N} {stop : ℕ} (on : first ≤ last) (q : Polled step gives parker mask (clocked bounds last stop) sure mid now answer new left) where
    pending_gives : answer ≡ Pending → (moment : ℕ) (output : O) → q.polls.cx.now ≤ moment → gives new sure moment output → gives mid sure moment output
    pending_gives is = subst (λ (a : Poll O). WhilePending a ((moment : ℕ) (output : O) → q.polls.cx.now ≤ moment → gives new sure moment output → gives mid sure moment output)) is q.pending

    -- the poll, by its answer, and those before it, of the clock until it is looked at last
    this_poll : (final : ℕ) (is_answer : Poll O) → answer ≡ is_answer → stop ≤ final → PollsWith step parker (clocked bounds first final) mask mid now is_answer new left
    this_poll final is_answer is end_on =
        subst (λ (a : Poll O). PollsWith step parker (clocked bounds first final) mask mid now a new left) is
        (poll_within step gives parker mask bounds first last stop final mid now answer new left on end_on q.polls)

    those_before : Widens turns → (final : ℕ) → last ≤ final → PollsInTurn step turns parker (clocked bounds first final) p.polls old was mask mid now
    those_before wider final on_to = polls_within wider parker bounds first last final p.polls old was mask mid now on_to p.chain

    module _ (next : InsideValue N) (more : Extends now.member.pass.view.did next.member.pass.view.did) where
      did_then : next.member.pass.view.did ≡ was.member.pass.view.did ++ (p.did.0 ++ more.0)
      did_then = more.1 ∙ ap (λ l. l ++ more.0) p.did.1 ∙ append_assoc was.member.pass.view.did p.did.0 more.0

      pub counted : (count : ℕ) → count ≤ after + 1 → count ≤ before + length (taken_of parker (gained was.member.pass.view next.member.pass.view)) + 1
      counted count one =
          let same : length (taken_of parker (gained was.member.pass.view next.member.pass.view)) ≡ length (taken_of parker p.did.0 ++ taken_of parker more.0) =
          ap (λ steps. length (taken_of parker steps)) (gained_is was.member.pass.view next.member.pass.view (p.did.0 ++ more.0) did_then)
          ∙ ap length (own-append parker p.did.0 more.0) in
          let long : length (taken_of parker p.did.0 ++ taken_of parker more.0) ≡ length (taken_of parker p.did.0) + length (taken_of parker more.0) =
          length-append (taken_of parker p.did.0) (taken_of parker more.0) in
          omega (arith, one, p.count, p.took, same, long)

    -- the next poll has a mask that was taken
    pub polls_on : Widens turns → (final found : ℕ) (later : InsideValue N) (count : ℕ) → answer ≡ Pending → last ≤ stop → stop ≤ final → Extends now.member.pass.view.did left.member.pass.view.did
        → Gains parker left.member.pass.view later.member.pass.view (found ∷ []) → turns (clocked bounds first final) left.member later.member (Ok found) → count ≤ after + 1 → Polling parker found bounds first final sure was later old new before count
    polls_on wider final found later count is mid_on end_on more gains turned one =
        let own : taken_of parker ((p.did.0 ++ more.0) ++ gains.steps) ≡ (taken_of parker p.did.0 ++ taken_of parker more.0) ++ found ∷ [] =
        own-append parker (p.did.0 ++ more.0) gains.steps ∙ (λ i. own-append parker p.did.0 more.0 i ++ gains.own i) in
        let same = ap length own in
        let one_longer : length ((taken_of parker p.did.0 ++ taken_of parker more.0) ++ found ∷ []) ≡ length (taken_of parker p.did.0 ++ taken_of parker more.0) + 1 =
        length-append (taken_of parker p.did.0 ++ taken_of parker more.0) (found ∷ []) in
        let long : length (taken_of parker p.did.0 ++ taken_of parker more.0) ≡ length (taken_of parker p.did.0) + length (taken_of parker more.0) =
        length-append (taken_of parker p.did.0) (taken_of parker more.0) in
        record {
          polls = suc p.polls;
          chain = (mask, mid, now, those_before wider final (le_trans mid_on end_on), record { left = left; polls = this_poll final Pending is end_on; takes = gains; turned = turned });
          did = (
            (p.did.0 ++ more.0) ++ gains.steps,
            gains.did ∙ ap (λ l. l ++ gains.steps) (did_then left more) ∙ append_assoc was.member.pass.view.did (p.did.0 ++ more.0) gains.steps,
          );
          took = omega (arith, p.took, same, one_longer, long);
          allows = λ moment output past given. p.allows moment output past (pending_gives is moment output (past q.polls.cx.now q.polls.told.within q.most) given);
          count = omega (arith, one, p.count);
        }

    pub fails : Widens turns → (final : ℕ) (fault : ReactFault) (later : InsideValue N) → answer ≡ Pending → last ≤ stop → stop ≤ final → GainsOneAtMost parker left.member.pass.view later.member.pass.view
        → turns (clocked bounds first final) left.member later.member (Err fault) → PolledUntil step turns parker (clocked bounds first final) old was (Err fault) new later
    fails wider final fault later is mid_on end_on most turned = (p.polls, mask, mid, now, left, those_before wider final (le_trans mid_on end_on), this_poll final Pending is end_on, most, turned)

    pub ends : Widens turns → (output : O) → answer ≡ Ready output → last ≤ stop → PolledUntil step turns parker (clocked bounds first stop) old was (Ok output) new left
    ends wider output is mid_on = (p.polls, mask, mid, now, those_before wider stop mid_on, this_poll stop (Ready output) is (le_refl stop))

    pub pending_allows : answer ≡ Pending → (moment : ℕ) (output : O) → IsPast bounds moment → gives new sure moment output → gives old sure moment output
    pending_allows is moment output past given = p.allows moment output past (pending_gives is moment output (past q.polls.cx.now q.polls.told.within q.most) given)

    pub ready_allows : (output : O) → answer ≡ Ready output → ((s : T) (sure : Bool) (a b : ℕ) (output : O) → a ≤ b → gives s sure a output → gives s sure b output)
        → (moment : ℕ) → IsPast bounds moment → gives old sure moment output
    ready_allows output is gives_later moment past =
        let given : gives mid sure q.polls.cx.now output = subst (λ (a : Poll O). IfReady a (λ o. gives mid sure q.polls.cx.now o)) is q.ready in
        p.allows moment output past (gives_later mid sure q.polls.cx.now moment output (past q.polls.cx.now q.polls.told.within q.most) given)
