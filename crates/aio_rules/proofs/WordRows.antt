-- The steps of a wake that meets a waiting seat, computed; and outcomes of wrong words, which the rule or the kinds refuse.
use Rattle.std.proofs.Common.{◌≡◌, ℕ, zero, suc, Bool, true, false, List, [], ◌∷◌, None, refl, sym, ap, ◌∙◌, ⊎_elim, arith, true≢false}
use Rattle.std.proofs.lemmas.Option.{none-some}
use mathlib.Core.Option.{some, some-injective, some-ne-none}
use lib.ListN.{get_elem?}
use Rattle.aio_rules.specs.declared.seats.Role.TheVariants as role
use Rattle.aio_rules.specs.declared.seats.Owed.TheVariants as owed
use Rattle.aio_rules.specs.declared.seats.Mode.{Mode}
use Rattle.aio_rules.specs.declared.seats.Mode.TheVariants as mode
use Rattle.aio_rules.specs.declared.seats.WordStep.TheVariants as word_step
use Rattle.aio_rules.specs.declared.seats.SeatView.{SeatView}
use Rattle.aio_rules.specs.SharedWords.{first_view, split_view, held, owed_to, after, May, IsInMidCall, WordRule}
use Rattle.aio_rules.specs.WordCalls.{Found, wake_steps, wins}
use Rattle.aio_rules.proofs.WordFrames.{not_both}

-- ## A wake of slot 0 while the round seat waits

abbrev blocks : SeatView
blocks = after (word_step.StoreBlocked 0 1 0) first_view

abbrev waits : SeatView
waits = after (word_step.LoadMask 0 0) blocks

the_seat_waits : waits.mode ≡ mode.Wait 0
the_seat_waits = refl

abbrev found : Found
found = record { in_mask = 0; in_blocked = 1; in_notified = 0 }

the_wake_tells : wake_steps 0 1 found ≡ word_step.SetBit 0 0 0 ∷ word_step.LoadBlocked 0 1 ∷ word_step.ExchangeNotified 0 ∷ []
the_wake_tells = refl

the_wake_wins : wins (wake_steps 0 1 found) ≡ true
the_wake_wins = refl

a_wake_of_no_parker_takes_no_step : wake_steps 64 1 found ≡ []
a_wake_of_no_parker_takes_no_step = refl

it_blocks_again : (after (word_step.SwapNotified 1) waits).mode ≡ mode.Block 0
it_blocks_again = refl

a_look_that_finds_a_slot_stays : (after (word_step.LoadMask 0 1) (after (word_step.SwapNotified 1) waits)).mode ≡ mode.Block 0
a_look_that_finds_a_slot_stays = refl

-- ## Wrong outcomes

zero_not_one : ¬ (zero ≡ 1)
zero_not_one e = omega arith

-- nobody owes where no seat's view does
nobody : (views : List SeatView) → ((at : ℕ) (u : SeatView) → get_elem? views at ≡ some u → owed_to u.owes ≡ None) → ¬ IsInMidCall views 0
nobody views none (at, u, e, owes) = none-some 0 (sym (none at u e) ∙ owes)

-- slot 0 is woken, notified is 0, the seat waits, and the other seat owes nothing: so it is after a wake that won no exchange and tells nobody,
-- after a wait that began without a look at the mask, and after a pass was joined away in mid-call
an_untold_wait_is_refused : (other : SeatView) → other.owes ≡ owed.Nothing → ¬ WordRule 1 (0 ∷ 0 ∷ 1 ∷ 1 ∷ []) (waits ∷ other ∷ [])
an_untold_wait_is_refused other nothing rule = ⊎_elim (λ z. absurd (zero_not_one z)) (nobody (waits ∷ other ∷ []) none)
    ((rule.agrees.each 0 waits refl).told 0 refl (λ z. zero_not_one (sym z)))
  where
    none : (at : ℕ) (u : SeatView) → get_elem? (waits ∷ other ∷ []) at ≡ some u → owed_to u.owes ≡ None
    none zero u e = ap (λ (x : SeatView). owed_to x.owes) (sym (some-injective waits u e))
    none (suc zero) u e = ap (λ (x : SeatView). owed_to x.owes) (sym (some-injective other u e)) ∙ ap owed_to nothing
    none (suc (suc at)) u e = absurd (some-ne-none u (sym e))

-- a seat waits whose flag is 0
a_wait_without_its_flag_is_refused : ¬ WordRule 1 (0 ∷ 0 ∷ 0 ∷ 0 ∷ []) (waits ∷ [])
a_wait_without_its_flag_is_refused rule = zero_not_one ((rule.agrees.each 0 waits refl).flag 0 refl)

-- a pass split off a round seat that began one round more than the words tell
abbrev early_pass : SeatView
early_pass = split_view (after (word_step.AddTicker 0) first_view)

-- a pass has seen a round that has not begun
a_round_not_begun_is_refused : ¬ WordRule 1 (0 ∷ 0 ∷ 0 ∷ 0 ∷ []) (first_view ∷ early_pass ∷ [])
a_round_not_begun_is_refused rule = let e = (rule.agrees.each 1 early_pass refl).seen in absurd (omega arith)

-- two seats begin rounds
two_round_seats_are_refused : ¬ WordRule 1 (0 ∷ 0 ∷ 0 ∷ 0 ∷ []) (first_view ∷ first_view ∷ [])
two_round_seats_are_refused rule = let one = rule.agrees.one_round.2 in zero_not_one ((one 0 first_view refl).0 refl ∙ sym ((one 1 first_view refl).0 refl))

-- a pass looks at a flag before it has set a bit
a_look_before_the_bit_is_refused : ¬ May 1 (split_view first_view) (word_step.LoadBlocked 0 1)
a_look_before_the_bit_is_refused may = none-some 0 (ap owed_to may.2)

-- notified is cleared before the wait of a seat that blocks
a_clearing_before_the_wait_is_refused : ¬ May 1 blocks (word_step.SwapNotified 1)
a_clearing_before_the_wait_is_refused may = ⊎_elim (λ idle. none-some 0 (sym (ap held idle))) (λ w. true≢false (sym (ap is_wait w.1))) may.1
  where
    is_wait : Mode → Bool
    is_wait mode.Idle = false
    is_wait (mode.Block i) = false
    is_wait (mode.Wait i) = true

-- a pass begins a round
a_round_of_a_pass_is_refused : ¬ May 1 (split_view first_view) (word_step.AddTicker 0)
a_round_of_a_pass_is_refused may = not_both role.Pass may.0 refl
