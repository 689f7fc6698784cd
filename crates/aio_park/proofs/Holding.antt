-- Rounds by a member that holds the cell, one after the other.
use Rattle.std.proofs.Common.{◌≡◌, ◌≢◌, ◌^◌, ◌-◌, ◌+◌, ◌≤◌, ℕ, zero, suc, Bool, true, false, ◌||◌, [], ◌∷◌, ◌++◌, map, refl, sym, ap, ◌∙◌, subst, append-nil, append_assoc, le_trans, Option, None, IfOk, IfErr, Result, Ok, Err, eq-eqb, arith}
use Rattle.std.specs.List.{list_any}
use Rattle.std.proofs.lemmas.List.{map-append}
use Rattle.std.proofs.lemmas.List.Elements.{All-append, All-cons, All-nil}
use Rattle.aio_rules.specs.declared.seats.SeatView.{SeatView}
use Rattle.aio_rules.specs.declared.seats.WordStep.{WordStep}
use Rattle.aio_rules.specs.declared.seats.WordStep.TheVariants as word_step
use Rattle.aio_base.specs.ClockBounds.{ClockBounds}
use Rattle.aio_rules.specs.SharedWords.{after}
use Rattle.aio_rules.specs.WordCalls.{is_look_at_end}
use Rattle.aio_shared.specs.declared.reacting.ReactedIn.{ReactedIn}
use Rattle.aio_words.specs.Seats.{SeatValue}
use Rattle.aio_shared.specs.declared.reacting.ReactFault.{ReactFault}
use Rattle.aio_shared.specs.Cells.{CellValue, WaitTells}
use Rattle.aio_shared.specs.Members.{Extends, IsLaterMember, MemberValue}
use Rattle.aio_shared.specs.OneCell.{Takes, ClaimValue, with_empties}
use Rattle.aio_shared.specs.Reacting.{BeginsNone, NotifierCounts, Reacts, Start, until}
use Rattle.aio_park.specs.Blocking.{gained}
use Rattle.aio_park.specs.Driving.{ComesToNothing, Drives, DrivesRound, DrivesRounds, DrivesUntilFault, FailsRound, FailsWithin, Holds, Passes, ReactsAtOnce, ReactsBlocked, SwapsFirst, Tries, TriesInVain, TriesRound, TriesUntil, TriesWithoutLimit, Waits, cell_did, member_did}
use Rattle.aio_park.proofs.Gaining.{Follows, gained_is, member_itself}

le_same : (a b : ℕ) → b ≡ a → a ≤ b
le_same a b same = omega (arith, same)

-- one step of the seat that a member lent
pub member_step : {N : Type 0} (step : WordStep) (m : MemberValue N) (was now : SeatValue) → was ≡ m.pass → now.words ≡ was.words → now.view ≡ after step was.view
    → record m { pass = now } ≡ member_did step m
member_step step m was now is words view =
    λ i. record m { pass = record { words = (words ∙ ap (λ (s : SeatValue). s.words) is) i; view = (view ∙ ap (λ (s : SeatValue). after step s.view) is) i } }

module _ {N : Type 0} where
  -- a look at the ticker that found its end
  pub spent_cause : (m later : MemberValue N) (found : ℕ) → found ≡ 2 ^ 64 - 1 → later.pass.view ≡ after (word_step.LoadTicker found) m.pass.view
      → list_any is_look_at_end (gained m.pass.view later.pass.view) ≡ true
  spent_cause m later found end view =
      ap (list_any is_look_at_end) (gained_is m.pass.view later.pass.view (word_step.LoadTicker found ∷ []) (ap (λ (v : SeatView). v.did) view))
      ∙ ap (λ b. b || false) (eq-eqb found (2 ^ 64 - 1) end)

  module _ (faults : N → ℕ) (is_sure : N → Bool) where
    -- a member of which only the seat changed is later
    pub later_by_seat : (m later : MemberValue N) → later ≡ record m { pass = later.pass } → later.pass.words ≡ m.pass.words → Extends m.pass.view.did later.pass.view.did
        → IsLaterMember faults is_sure m later
    later_by_seat m later is words did =
        let claim : later.claim ≡ m.claim = ap (λ (x : MemberValue N). x.claim) is in
        record {
          claim = claim ∙ (λ i. with_empties (sym (ap (λ (x : ClaimValue). x.empties) claim) i) m.claim);
          words = words;
          queue = ap (λ (x : MemberValue N). x.ops.queue) is;
          number = ap (λ (x : MemberValue N). x.ops.number) is;
          sure = ap (λ (x : MemberValue N). is_sure x.notifier) is;
          did = did;
          own = ([], ap (λ (x : MemberValue N). x.ops.own) is ∙ sym (append-nil m.ops.own));
          pulled = ([], ap (λ (x : MemberValue N). x.ops.pulled) is ∙ sym (append-nil m.ops.pulled));
          fulls = le_same m.ops.fulls later.ops.fulls (ap (λ (x : MemberValue N). x.ops.fulls) is);
          empties = le_same m.ops.empties later.ops.empties (ap (λ (x : MemberValue N). x.ops.empties) is);
          ids = le_same m.ids later.ids (ap (λ (x : MemberValue N). x.ids) is);
          notifier = le_same (faults m.notifier) (faults later.notifier) (ap (λ (x : MemberValue N). faults x.notifier) is);
        }

    -- a later member is one also where both are seen with another place at the lock
    other_claim : (b c : MemberValue N) (was now : ClaimValue) → IsLaterMember faults is_sure b c → now ≡ with_empties now.empties was
        → IsLaterMember faults is_sure (record b { claim = was }) (record c { claim = now })
    other_claim b c was now later claim = record {
      claim = claim;
      words = later.words;
      queue = later.queue;
      number = later.number;
      sure = later.sure;
      did = later.did;
      own = later.own;
      pulled = later.pulled;
      fulls = later.fulls;
      empties = later.empties;
      ids = later.ids;
      notifier = later.notifier;
    }

    -- a member whose pop found no cell is later
    pub later_waited : (a b : MemberValue N) → b ≡ record a { claim = b.claim } → b.claim ≡ with_empties b.claim.empties a.claim → IsLaterMember faults is_sure a b
    later_waited a b is claim = subst (IsLaterMember faults is_sure a) (sym is) (other_claim a a a.claim b.claim (member_itself faults is_sure a) claim)

    -- A member took the cell, did something, and gave it back: it is later then, where it did not hold the cell before.
    pub locked_later : (a b c d : MemberValue N) (e : ℕ) → a.claim.holds ≡ false → b ≡ record a { claim = b.claim } → b.claim ≡ record a.claim { holds = true; empties = e }
        → IsLaterMember faults is_sure b c → d ≡ record c { claim = record c.claim { holds = false } } → IsLaterMember faults is_sure a d
    locked_later a b c d e free taken claim later gave =
        let back : record b { claim = a.claim } ≡ a = ap (λ (x : MemberValue N). record x { claim = a.claim }) taken in
        let held : c.claim ≡ with_empties c.claim.empties (record a.claim { holds = true; empties = e }) = later.claim ∙ ap (with_empties c.claim.empties) claim in
        let put : record c.claim { holds = false } ≡ with_empties c.claim.empties a.claim =
        ap (λ (t : ClaimValue). record t { holds = false }) held ∙ (λ i. record a.claim { holds = sym free i; empties = c.claim.empties }) in
        let both = other_claim b c a.claim (record c.claim { holds = false }) later put in
        subst (λ (x : MemberValue N). IsLaterMember faults is_sure a x) (sym gave)
        (subst (λ (x : MemberValue N). IsLaterMember faults is_sure x (record c { claim = record c.claim { holds = false } })) back both)

  -- what follows from taking the cell, and from giving it back
  pub follows_claim : (faults : N → ℕ) (is_sure : N → Bool) (a b : MemberValue N) → b ≡ record a { claim = b.claim } → b.claim.sure_of_wait ≡ a.claim.sure_of_wait
      → b.claim.sure_of_arms ≡ a.claim.sure_of_arms → Follows faults is_sure a b
  follows_claim faults is_sure a b is wait arms = record {
    wait = wait;
    arms = arms;
    did = ([], ap (λ (x : MemberValue N). x.pass.view.did) is ∙ sym (append-nil a.pass.view.did));
    notifier = le_same (faults a.notifier) (faults b.notifier) (ap (λ (x : MemberValue N). faults x.notifier) is);
    sure = ap (λ (x : MemberValue N). is_sure x.notifier) is;
  }

-- one step of the seat that a cell lent
pub cell_step : {W : Type 0} (step : WordStep) (c : CellValue W) (was now : SeatValue) → was ≡ c.seat → now.words ≡ was.words → now.view ≡ after step was.view
    → record c { seat = now } ≡ cell_did step c
cell_step step c was now is words view =
    λ i. record c { seat = record { words = (words ∙ ap (λ (s : SeatValue). s.words) is) i; view = (view ∙ ap (λ (s : SeatValue). after step s.view) is) i } }

module _ {N W : Type 0} where
  -- of the member changed nothing but its seat
  pub vain_kept : (tries : ℕ) (old new : CellValue W) (m later : MemberValue N) → TriesInVain tries old new m later → later ≡ record m { pass = later.pass }
  vain_kept zero old new m later x = x.1 ∙ ap (λ (y : MemberValue N). record m { pass = y.pass }) (sym x.1)
  vain_kept (suc tries) old new m later (last, by, front, one) =
      let looked : later ≡ record by { pass = later.pass } = one.looks ∙ ap (λ (y : MemberValue N). record by { pass = y.pass }) (sym one.looks) in
      looked ∙ ap (λ (y : MemberValue N). record y { pass = later.pass }) (vain_kept tries old last m by front)

  -- no round began, and the member looked at the ticker
  pub nothing_begun : (old new : CellValue W) (m by later : MemberValue N) (found : ℕ) → BeginsNone old new → old.seat.view.seen ≡ 2 ^ 64 - 1 → by ≡ m
      → later ≡ member_did (word_step.LoadTicker found) by → found ≢ 2 ^ 64 - 1 → ComesToNothing old new m later
  nothing_begun old new m by later found none spent same did below = record {
    none = none;
    spent = spent;
    found = found;
    looks = did ∙ ap (member_did (word_step.LoadTicker found)) same;
    below = below;
  }

  -- one more round
  pub one_more : (faults : N → ℕ) (parkers : ℕ) (all_sure : Bool) (start : Start W) (rounds : ℕ) (old last new : CellValue W) (m by later : MemberValue N) (before more : ℕ)
      → DrivesRounds faults parkers all_sure start rounds old last m by before → DrivesRound faults parkers all_sure start last new by later more
      → DrivesRounds faults parkers all_sure start (rounds + 1) old new m later (before + more)
  one_more faults parkers all_sure start rounds old last new m by later before more x y =
      let next : suc rounds ≡ rounds + 1 = omega arith in
      subst (λ k. DrivesRounds faults parkers all_sure start k old new m later (before + more)) next (last, by, before, more, x, y, refl)

  -- a call of a clock with the same bounds
  pub with_bounds : (parkers : ℕ) (all_sure : Bool) (given : Option ℕ) (bounds other : ClockBounds) (earliest latest : ℕ) (step : WaitTells W) (old new : CellValue W) (m later : MemberValue N) (notifier : NotifierCounts)
      (r : Result (Option ReactedIn) ReactFault) → other ≡ bounds
      → Tries parkers all_sure (record { given = given; bounds = other; earliest = earliest; latest = latest; step = step }) old new m later notifier r
      → Tries parkers all_sure (record { given = given; bounds = bounds; earliest = earliest; latest = latest; step = step }) old new m later notifier r
  with_bounds parkers all_sure given bounds other earliest latest step old new m later notifier r same =
      subst (λ b. Tries parkers all_sure (record { given = given; bounds = b; earliest = earliest; latest = latest; step = step }) old new m later notifier r) same

  -- rounds of a clock until a moment are also ones until a later moment
  round_until : (faults : N → ℕ) (parkers : ℕ) (all_sure : Bool) (start : Start W) (stop : ℕ) (old new : CellValue W) (m later : MemberValue N) (events : ℕ) → start.latest ≤ stop
      → DrivesRound faults parkers all_sure start old new m later events → DrivesRound faults parkers all_sure (until stop start) old new m later events
  round_until faults parkers all_sure start stop old new m later events on x = record {
    tries = x.tries;
    from = x.from;
    by = x.by;
    first = x.first;
    moment = x.moment;
    not_before = x.not_before;
    stop = x.stop;
    not_after = le_trans x.not_after on;
    reacted = x.reacted;
    reacts = x.reacts;
    events_are = x.events_are;
  }

  pub rounds_until : (faults : N → ℕ) (parkers : ℕ) (all_sure : Bool) (start : Start W) (stop rounds : ℕ) (old new : CellValue W) (m later : MemberValue N) (events : ℕ) → start.latest ≤ stop
      → DrivesRounds faults parkers all_sure start rounds old new m later events → DrivesRounds faults parkers all_sure (until stop start) rounds old new m later events
  rounds_until faults parkers all_sure start stop zero old new m later events on x = x
  rounds_until faults parkers all_sure start stop (suc rounds) old new m later events on (last, by, before, more, front, round, sum) = (
    last,
    by,
    before,
    more,
    rounds_until faults parkers all_sure start stop rounds old last m by before on front,
    round_until faults parkers all_sure start stop last new by later more on round,
    sum,
  )

  -- a round of a later moment is one of an earlier, if the bounds are the same
  pub from_earlier : (faults : N → ℕ) (parkers : ℕ) (all_sure : Bool) (start : Start W) (bounds : ClockBounds) (moment : ℕ) (old new : CellValue W) (m later : MemberValue N) (events : ℕ)
      → bounds ≡ start.bounds → start.earliest ≤ moment → DrivesRound faults parkers all_sure (record start { bounds = bounds; earliest = moment }) old new m later events → DrivesRound faults parkers all_sure start old new m later events
  from_earlier faults parkers all_sure start bounds moment old new m later events same before x = record {
    tries = x.tries;
    from = x.from;
    by = x.by;
    first = x.first;
    moment = x.moment;
    not_before = (let on = x.not_before in omega arith);
    stop = x.stop;
    not_after = x.not_after;
    reacted = x.reacted;
    reacts =
        subst
        (λ b.
        Reacts parkers all_sure (record { given = None; bounds = b; earliest = x.moment; latest = x.stop; step = start.step }) x.from new x.by later
        (record { before = faults x.by.notifier; after = faults later.notifier }) (Ok x.reacted))
        same x.reacts;
    events_are = x.events_are;
  }

  -- a member took a cell so, did this with it, and gave it back
  pub held : (Taken : ClaimValue → ClaimValue → CellValue W → Type 0) (Did : CellValue W → CellValue W → MemberValue N → MemberValue N → Type 0) (taken left : CellValue W) (m holding done later : MemberValue N)
      → Taken m.claim holding.claim taken → holding ≡ record m { claim = holding.claim } → Did taken left holding done → later ≡ record done { claim = record done.claim { holds = false } } → Holds Taken Did m later
  held Taken Did taken left m holding done later takes rest did gave = record { taken = taken; left = left; holding = holding; done = done; takes = takes; rest = rest; did = did; gave = gave }

  -- the rounds of a member that took the cell and gave it back
  pub drives_where : (faults : N → ℕ) (parkers : ℕ) (all_sure : Bool) (start : Start W) (rounds : ℕ) (m holding done later : MemberValue N) (taken left : CellValue W) (r : Result ℕ ReactFault)
      → Takes m.claim holding.claim taken → holding ≡ record m { claim = holding.claim } → later ≡ record done { claim = record done.claim { holds = false } }
      → IfOk r (λ events. DrivesRounds faults parkers all_sure start rounds taken left holding done events) → IfOk r (Drives W faults parkers all_sure start rounds m later)
  drives_where faults parkers all_sure start rounds m holding done later taken left (Ok events) takes rest gave made =
      held _ _ taken left m holding done later takes rest made gave
  drives_where faults parkers all_sure start rounds m holding done later taken left (Err fault) takes rest gave made = tt

  -- a turn swapped its mask, and then did what it did by what that found
  pub swaps_first : (faults : N → ℕ) (parkers : ℕ) (all_sure : Bool) (start : Start W) (parker found : ℕ) (m mid later : MemberValue N) (r : Result ℕ ReactFault)
      → mid ≡ member_did (word_step.SwapMask parker found) m → Extends mid.pass.view.did later.pass.view.did
      → (found ≢ 0 → IfOk r (λ mask. (mask ≡ found) × Passes W faults parkers all_sure start mid later))
      → (found ≡ 0 → IfOk r (λ mask. Waits W faults parkers all_sure start parker mask mid later))
      → (found ≢ 0 → IfErr r (λ fault. ReactsAtOnce W faults parkers all_sure start mid later (Err fault)))
      → (found ≡ 0 → IfErr r (λ fault. ReactsBlocked W faults parkers all_sure start parker mid later (Err fault))) → SwapsFirst W faults parkers all_sure start parker m later r
  swaps_first faults parkers all_sure start parker found m mid later r is did passes waits fails_passing fails_waiting = record {
    found = found;
    did = subst (λ (x : MemberValue N). Extends x.pass.view.did later.pass.view.did) is did;
    passes = subst (λ (x : MemberValue N). found ≢ 0 → IfOk r (λ mask. (mask ≡ found) × Passes W faults parkers all_sure start x later)) is passes;
    waits = subst (λ (x : MemberValue N). found ≡ 0 → IfOk r (λ mask. Waits W faults parkers all_sure start parker mask x later)) is waits;
    fails_passing = subst (λ (x : MemberValue N). found ≢ 0 → IfErr r (λ fault. ReactsAtOnce W faults parkers all_sure start x later (Err fault))) is fails_passing;
    fails_waiting = subst (λ (x : MemberValue N). found ≡ 0 → IfErr r (λ fault. ReactsBlocked W faults parkers all_sure start parker x later (Err fault))) is fails_waiting;
  }

  -- ## Tries of rounds without a limit

  module _ (faults : N → ℕ) (parkers : ℕ) (all_sure : Bool) where
    -- a try of this call of the clock, in a call that began no later and has the same bounds
    pub try_of : (start : Start W) (given : Option ℕ) (other : ClockBounds) (earliest latest : ℕ) (old new : CellValue W) (m later : MemberValue N) (r : Result (Option ReactedIn) ReactFault)
        → other ≡ start.bounds → start.earliest ≤ earliest → latest ≤ start.latest
        → Tries parkers all_sure (record { given = given; bounds = other; earliest = earliest; latest = latest; step = start.step }) old new m later
        (record { before = faults m.notifier; after = faults later.notifier }) r
        → TriesRound faults parkers all_sure start given old new m later r
    try_of start given other earliest latest old new m later r same before after_it tries = record {
      moment = earliest;
      not_before = before;
      stop = latest;
      not_after = after_it;
      tries = with_bounds parkers all_sure given start.bounds other earliest latest start.step old new m later (record { before = faults m.notifier; after = faults later.notifier }) r same tries;
    }

    try_until : (start : Start W) (stop : ℕ) (given : Option ℕ) (old new : CellValue W) (m later : MemberValue N) (r : Result (Option ReactedIn) ReactFault) → start.latest ≤ stop
        → TriesRound faults parkers all_sure start given old new m later r → TriesRound faults parkers all_sure (until stop start) given old new m later r
    try_until start stop given old new m later r on x = record { moment = x.moment; not_before = x.not_before; stop = x.stop; not_after = le_trans x.not_after on; tries = x.tries }

    -- tries until a moment are also ones until a later moment
    pub tries_until : (start : Start W) (stop parker tries : ℕ) (old new : CellValue W) (m later : MemberValue N) → start.latest ≤ stop
        → TriesWithoutLimit faults parkers all_sure start parker tries old new m later → TriesWithoutLimit faults parkers all_sure (until stop start) parker tries old new m later
    tries_until start stop parker zero old new m later on x = x
    tries_until start stop parker (suc tries) old new m later on (last, by, reacted, front, tried) =
        (last, by, reacted, tries_until start stop parker tries old last m by on front, try_until start stop None _ new by later (Ok reacted) on tried)

    module _ (start : Start W) (parker tries : ℕ) (old last from new : CellValue W) (m by later : MemberValue N)
        (front : TriesWithoutLimit faults parkers all_sure start parker tries old last m by) (look : from ≡ cell_did (word_step.LoadMask parker 0) last) where
      -- one more, right after a look that found no woken slot
      pub tries_further : (reacted : Option ReactedIn)
          → TriesRound faults parkers all_sure start None from new by later (Ok reacted) → TriesWithoutLimit faults parkers all_sure start parker (suc tries) old new m later
      tries_further reacted tried =
          (last, by, reacted, front, subst (λ (c : CellValue W). TriesRound faults parkers all_sure start None c new by later (Ok reacted)) look tried)

      -- or one that failed
      pub tries_fail : (X : Type 0) (fault : ReactFault)
          → TriesRound faults parkers all_sure start None from new by later (Err fault) → TriesUntil faults parkers all_sure start {X = X} parker (Err fault) old new m later
      tries_fail X fault tried =
          (tries, last, by, front, subst (λ (c : CellValue W). TriesRound faults parkers all_sure start None c new by later (Err fault)) look tried)

    -- a round that failed in a call that began later is one of a call that began earlier, if the bounds are the same
    pub fails_earlier : (start : Start W) (bounds : ClockBounds) (moment : ℕ) (old new : CellValue W) (m later : MemberValue N) (fault : ReactFault)
        → bounds ≡ start.bounds → start.earliest ≤ moment → FailsRound faults parkers all_sure (record start { bounds = bounds; earliest = moment }) old new m later fault
        → FailsRound faults parkers all_sure start old new m later fault
    fails_earlier start bounds moment old new m later fault same before x = record {
      before = x.before;
      from = x.from;
      by = x.by;
      first = x.first;
      tries = try_of start None bounds x.tries.moment x.tries.stop x.from new x.by later (Err fault) same (le_trans before x.tries.not_before) x.tries.not_after x.tries.tries;
    }

    -- the rounds of a member that took the cell, one of which failed, and gave it back
    pub fails_where : {X : Type 0} (start : Start W) (rounds : ℕ) (m holding done later : MemberValue N) (taken left : CellValue W) (r : Result X ReactFault)
        → Takes m.claim holding.claim taken → holding ≡ record m { claim = holding.claim } → later ≡ record done { claim = record done.claim { holds = false } }
        → IfErr r (FailsWithin faults parkers all_sure start rounds taken left holding done) → IfErr r (DrivesUntilFault W faults parkers all_sure start rounds m later)
    fails_where start rounds m holding done later taken left (Ok events) takes rest gave fails = tt
    fails_where start rounds m holding done later taken left (Err fault) takes rest gave fails =
        held _ _ taken left m holding done later takes rest fails gave
