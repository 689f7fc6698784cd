-- A finish of a core meets the machine's.
use Rattle.std.proofs.Common.{◌≡◌, ℕ, ◌≤◌, Bool, true, false, not, ◌&&◌, if◌then◌else◌, cond, List, [], ◌++◌, length, Option, None, Some, IfSome, Result, Ok, Err, refl, sym, ap, ◌∙◌, subst}
use Rattle.std.specs.Prelude.{nat_le}
use Rattle.std.proofs.lemmas.List.{append-nil}
use Rattle.std.proofs.lemmas.List.Elements.{All-filter}
use Rattle.aio_base.specs.declared.names.Event.{Event}
use Rattle.aio_base.specs.declared.names.Waker.{Waker}
use Rattle.aio_base.specs.declared.outcomes.EndWord.{EndWord}
use Rattle.aio_base.specs.declared.steps.Answer.TheVariants as replies
use Rattle.aio_base.specs.Devices.{Interests, PollerMove}
use Rattle.aio_base.specs.Machine.{Outcome, quiet, finish_in, finish_round, gave_none, is_zero, makes_second_pass, hand_of}
use Rattle.aio_base.specs.Timers.{in_order, due_wakers, after_pass}
use Rattle.aio_base.specs.World.{PollerAnswer, World, Registration, RoundState, is_empty_list}
use Rattle.aio_base.proofs.BookChanges.{after_pass_in_order}
use Rattle.aio_react.specs.declared.refusals.CoreRefusal.{CoreRefusal}
use Rattle.aio_react.specs.declared.refusals.CoreRefusal.TheVariants as refusal
use Rattle.aio_source.specs.declared.in_hand.RoundFault.{RoundFault}
use Rattle.aio_react.specs.Cores.{CoreValue}
use Rattle.aio_react.specs.Parts.{ComesWithin, MeetsPart}
use Rattle.aio_source.specs.InHand.{RoundValue}
use Rattle.aio_react.specs.Rounds.{has_second_pass, second_wakers, second_book, finished}
use Rattle.aio_react.specs.Replies.{empty_hand_refusal}
use Rattle.aio_react.specs.Sections.{finish_reply, finish_wakes}
use Rattle.aio_react.specs.Standing.{AreAsked, RoundStands, Runs, StandsWithin, end_word}
use Rattle.aio_facts.specs.Sound.{TimersSound}
use Rattle.aio_facts.proofs.BookPasses.{due_of_book, ids_filter}
use Rattle.aio_react.proofs.steps.PartMeets.{quiet_part}
use Rattle.aio_react.proofs.rounds.WaitMeets.{none_runs, one_runs}

-- ## The end

abbrev ended : World → RoundState → Bool → List PollerAnswer → Outcome
ended w s second later = record {
  answer = replies.End s.fault;
  wakes = cond second (s.taken ++ due_wakers w.now w.registrations) s.taken;
  world = record w { round = None; registrations = cond second (after_pass w.now w.registrations) w.registrations };
  calls = [];
  left = later;
}

end_is_made : (w : World) (s : RoundState) (later : List PollerAnswer) → w.round ≡ Some s → s.in_hand ≡ []
    → finish_in w w.round later ≡ ended w s (makes_second_pass s.last_wait s.limit) later
end_is_made w s later is none =
    ap (λ (round : Option RoundState). finish_in w round later) is
    ∙ ap (λ (given : List Event). if is_empty_list given then ended w s (makes_second_pass s.last_wait s.limit) later else quiet (replies.Events (length given)) w later) none

second_same : (r : RoundValue) (s : RoundState) → Runs r s → makes_second_pass s.last_wait s.limit ≡ has_second_pass r
second_same r s runs =
    ap (λ (last : Option PollerAnswer). gave_none last && not (is_zero s.limit)) runs.last_is
    ∙ ap (λ (limit : Option ℕ). gave_none r.last && not (is_zero limit)) runs.limit_is

-- the timers that are left
sound_left : (second : Bool) (now drawn : ℕ) (rs : List Registration) → TimersSound rs drawn → TimersSound (cond second (after_pass now rs) rs) drawn
sound_left true now drawn rs sound = record {
  ids = ids_filter (λ (r : Registration). not (nat_le r.deadline now)) rs sound.ids;
  given = All-filter (λ (r : Registration). not (nat_le r.deadline now)) (λ (r : Registration). r.id ≤ drawn) rs sound.given;
}
sound_left false now drawn rs sound = sound

book_left : (second : Bool) (now : ℕ) (rs book : List Registration) → in_order rs ≡ book → in_order (cond second (after_pass now rs) rs) ≡ cond second (after_pass now book) book
book_left true now rs book is = after_pass_in_order now rs ∙ ap (after_pass now) is
book_left false now rs book is = is

taken_all : (second : Bool) (now : ℕ) (rs book : List Registration) (taken kept : List Waker) → in_order rs ≡ book → taken ≡ kept
    → cond second (taken ++ due_wakers now rs) taken ≡ kept ++ cond second (due_wakers now book) []
taken_all true now rs book taken kept is same =
    ap (λ (front : List Waker). front ++ due_wakers now rs) same ∙ ap (λ (due : List Waker). kept ++ due) (due_of_book now rs ∙ ap (due_wakers now) is)
taken_all false now rs book taken kept is same = same ∙ sym (append-nil kept)

abbrev core_ended : CoreValue → ℕ → Bool → CoreValue
core_ended core now second = record core {
  book = cond second (after_pass now core.book) core.book;
  round = finished core.round (cond second (due_wakers now core.book) []);
}

ended_comes : (bound : ℕ) (told : Option Interests) (core : CoreValue) (w : World) (s : RoundState) (second : Bool) (later : List PollerAnswer)
    → StandsWithin bound told core w → w.round ≡ Some s → s.in_hand ≡ [] → Runs core.round s
    → ComesWithin bound w (ended w s second later) (replies.End (end_word core.round.fault)) (core_ended core w.now second).round.taken [] later told (core_ended core w.now second)
ended_comes bound told core w s second later stands is none runs = record {
  answer_is = ap (λ (word : EndWord). replies.End word) runs.fault_is;
  wakes_are = taken_all second w.now w.registrations core.book s.taken core.round.taken stands.book.book_is runs.taken_is;
  calls_are = refl;
  left_are = refl;
  moment_is = refl;
  position_is = refl;
  stands = record {
    sources = stands.sources;
    count = stands.count;
    tickets = stands.tickets;
    listeners = stands.listeners;
    ticker_is = stands.ticker_is;
    book = record { book_is = book_left second w.now w.registrations core.book stands.book.book_is; ids_are = stands.book.ids_are };
    tells = stands.tells;
    asked = subst (AreAsked core.sources w.armed) (ap hand_of is ∙ none) stands.asked;
    round = refl;
    sound = record {
      live = stands.sound.live;
      unused = stands.sound.unused;
      listeners = stands.sound.listeners;
      past = stands.sound.past;
      running = tt;
      timers = sound_left second w.now w.ids_drawn w.registrations stands.sound.timers;
    };
  };
}

-- with a running round and none in hand
pub finish_meets : {P : Type 0} (poller_step : P → PollerMove → P → Type 0) (tells : P → Option Interests) (poller : P) (core : CoreValue) (limit : Option ℕ) (now : ℕ)
    → core.round.running ≡ true → core.round.hand ≡ []
    → MeetsPart poller_step tells finish_round (Some now) (replies.End (end_word core.round.fault)) (core_ended core now (has_second_pass core.round)).round.taken limit
    (poller, core) (poller, core_ended core now (has_second_pass core.round))
finish_meets {P = P} poller_step tells poller core limit now running none = record {
  moves = [];
  run = refl;
  waits = tt;
  comes = λ bound w later stands at.
      let one = one_runs core.round w.round stands.round running in
      let empty = one.2.hand_is ∙ none in
      let second = has_second_pass core.round in
      subst (λ (o : Outcome). ComesWithin bound w o (replies.End (end_word core.round.fault)) (core_ended core now second).round.taken [] later (tells poller) (core_ended core now second))
      (sym (end_is_made w one.0 later one.1 empty ∙ ap (λ (b : Bool). ended w one.0 b later) (second_same core.round one.0 one.2)))
      (subst (λ (moment : ℕ). ComesWithin bound w (ended w one.0 second later) (replies.End (end_word core.round.fault)) (core_ended core moment second).round.taken [] later (tells poller) (core_ended core moment second))
      at (ended_comes bound (tells poller) core w one.0 second later stands one.1 empty one.2));
}

-- the same, by what the call left and answered
pub finish_done : {P : Type 0} (poller_step : P → PollerMove → P → Type 0) (tells : P → Option Interests) (poller : P) (core : CoreValue) (limit : Option ℕ) (now : ℕ)
    (fault : Option RoundFault) (book : List Registration) (r : RoundValue) → core.round.running ≡ true → core.round.hand ≡ []
    → fault ≡ core.round.fault → book ≡ second_book core.round now core.book → r ≡ finished core.round (second_wakers core.round now core.book)
    → MeetsPart poller_step tells finish_round (Some now) (replies.End (end_word fault)) r.taken limit (poller, core) (poller, record core { book = book; round = r })
finish_done {P = P} poller_step tells poller core limit now fault book r running none fault_is book_is round_is =
    let met : Option RoundFault → List Registration → RoundValue → Type 0 = λ f b s.
    MeetsPart poller_step tells finish_round (Some now) (replies.End (end_word f)) s.taken limit (poller, core) (poller, record core { book = b; round = s }) in
    subst (λ (s : RoundValue). met fault book s) (sym round_is)
    (subst (λ (b : List Registration). met fault b (finished core.round (second_wakers core.round now core.book))) (sym book_is)
    (subst (λ (f : Option RoundFault). met f (second_book core.round now core.book) (finished core.round (second_wakers core.round now core.book))) (sym fault_is)
    (finish_meets poller_step tells poller core limit now running none)))

-- ## A refused finish

finish_of_none : (w : World) (r : RoundValue) (later : List PollerAnswer) → RoundStands r w.round → r.running ≡ false
    → finish_in w w.round later ≡ quiet replies.NoRound w later
finish_of_none w r later stands idle = ap (λ (round : Option RoundState). finish_in w round later) (none_runs r w.round stands idle)

hand_is_left : (w : World) (s : RoundState) (hand : List Event) (later : List PollerAnswer) → is_empty_list hand ≡ false → s.in_hand ≡ hand
    → finish_in w (Some s) later ≡ quiet (replies.Events (length hand)) w later
hand_is_left w s hand later some is =
    ap (λ (given : List Event). if is_empty_list given then ended w s (makes_second_pass s.last_wait s.limit) later else quiet (replies.Events (length given)) w later) is
    ∙ ap (λ (b : Bool). if b then ended w s (makes_second_pass s.last_wait s.limit) later else quiet (replies.Events (length hand)) w later) some

idle_meets : {P : Type 0} (poller_step : P → PollerMove → P → Type 0) (tells : P → Option Interests) (poller : P) (core : CoreValue) (limit : Option ℕ) (now : Option ℕ)
    → core.round.running ≡ false → MeetsPart poller_step tells finish_round now replies.NoRound [] limit (poller, core) (poller, core)
idle_meets {P = P} poller_step tells poller core limit now idle =
    quiet_part poller_step tells finish_round now replies.NoRound limit poller core (λ bound w later stands. finish_of_none w core.round later stands.round idle)

left_meets : {P : Type 0} (poller_step : P → PollerMove → P → Type 0) (tells : P → Option Interests) (poller : P) (core : CoreValue) (limit : Option ℕ) (now : Option ℕ)
    → core.round.running ≡ true → is_empty_list core.round.hand ≡ false
    → MeetsPart poller_step tells finish_round now (replies.Events (length core.round.hand)) [] limit (poller, core) (poller, core)
left_meets {P = P} poller_step tells poller core limit now running some =
    quiet_part poller_step tells finish_round now (replies.Events (length core.round.hand)) limit poller core
    (λ bound w later stands.
    let one = one_runs core.round w.round stands.round running in
    ap (λ (round : Option RoundState). finish_in w round later) one.1 ∙ hand_is_left w one.0 core.round.hand later some one.2.hand_is)

abbrev Answered : {P : Type 0} → (P → PollerMove → P → Type 0) → (P → Option Interests) → P → CoreValue → Option ℕ → Option ℕ → CoreRefusal → Type 0
Answered poller_step tells poller core limit now refused = IfSome (finish_reply (Err refused))
    (λ reply. MeetsPart poller_step tells finish_round now reply [] limit (poller, core) (poller, core))

refused_by : {P : Type 0} (poller_step : P → PollerMove → P → Type 0) (tells : P → Option Interests) (poller : P) (core : CoreValue) (limit : Option ℕ) (now : Option ℕ) (refused : CoreRefusal)
    (running empty : Bool) → core.round.running ≡ running → is_empty_list core.round.hand ≡ empty
    → Some refused ≡ (if not running then Some refusal.NoRound else (if empty then None else Some (refusal.EventsLeft (length core.round.hand))))
    → Answered poller_step tells poller core limit now refused
refused_by {P = P} poller_step tells poller core limit now refused false empty idle some is =
    let same : refused ≡ refusal.NoRound = cc in
    subst (λ (r : CoreRefusal). Answered poller_step tells poller core limit now r) (sym same) (idle_meets poller_step tells poller core limit now idle)
refused_by {P = P} poller_step tells poller core limit now refused true true running some is = absurd (cc)
refused_by {P = P} poller_step tells poller core limit now refused true false running some is =
    let same : refused ≡ refusal.EventsLeft (length core.round.hand) = cc in
    subst (λ (r : CoreRefusal). Answered poller_step tells poller core limit now r) (sym same) (left_meets poller_step tells poller core limit now running some)

-- by the phase of the round
pub finish_refused : {P : Type 0} (poller_step : P → PollerMove → P → Type 0) (tells : P → Option Interests) (poller : P) (core : CoreValue) (limit : Option ℕ) (now : Option ℕ) (refused : CoreRefusal)
    → Some refused ≡ empty_hand_refusal core.round
    → IfSome (finish_reply (Err refused)) (λ reply. MeetsPart poller_step tells finish_round now reply [] limit (poller, core) (poller, core))
finish_refused {P = P} poller_step tells poller core limit now refused is =
    refused_by poller_step tells poller core limit now refused core.round.running (is_empty_list core.round.hand) refl refl is

-- ## What it answered

abbrev Replied : {P : Type 0} → (P → PollerMove → P → Type 0) → (P → Option Interests) → P → CoreValue → Option ℕ → ℕ → List Registration → RoundValue
    → Result (Option RoundFault) CoreRefusal → Type 0
Replied poller_step tells poller core limit now book r reply = IfSome (finish_reply reply)
    (λ answer. MeetsPart poller_step tells finish_round (Some now) answer (finish_wakes reply r) limit (poller, core) (poller, record core { book = book; round = r }))

-- a round that ended
pub finish_answered : {P : Type 0} (poller_step : P → PollerMove → P → Type 0) (tells : P → Option Interests) (poller : P) (core : CoreValue) (limit : Option ℕ) (now : ℕ)
    (fault : Option RoundFault) (book : List Registration) (r : RoundValue) (reply : Result (Option RoundFault) CoreRefusal) → reply ≡ Ok fault
    → core.round.running ≡ true → core.round.hand ≡ [] → fault ≡ core.round.fault → book ≡ second_book core.round now core.book
    → r ≡ finished core.round (second_wakers core.round now core.book)
    → IfSome (finish_reply reply) (λ answer. MeetsPart poller_step tells finish_round (Some now) answer (finish_wakes reply r) limit (poller, core) (poller, record core { book = book; round = r }))
finish_answered {P = P} poller_step tells poller core limit now fault book r reply is running none fault_is book_is round_is =
    subst (λ (said : Result (Option RoundFault) CoreRefusal). Replied poller_step tells poller core limit now book r said) (sym is)
    (finish_done poller_step tells poller core limit now fault book r running none fault_is book_is round_is)

-- one for which there was no memory
pub finish_unanswered : {P : Type 0} (poller_step : P → PollerMove → P → Type 0) (tells : P → Option Interests) (poller : P) (core : CoreValue) (limit : Option ℕ) (now : ℕ)
    (book : List Registration) (r : RoundValue) (reply : Result (Option RoundFault) CoreRefusal) → reply ≡ Err refusal.OutOfMemory
    → IfSome (finish_reply reply) (λ answer. MeetsPart poller_step tells finish_round (Some now) answer (finish_wakes reply r) limit (poller, core) (poller, record core { book = book; round = r }))
finish_unanswered {P = P} poller_step tells poller core limit now book r reply is =
    subst (λ (said : Result (Option RoundFault) CoreRefusal). Replied poller_step tells poller core limit now book r said) (sym is) tt
