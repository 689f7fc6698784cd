-- Lists of entries whose serials rise, and changes of an entry that is not there.
use Rattle.std.proofs.Common.{◌≡◌, ℕ, ◌<◌, ◌≤◌, Bool, true, false, ◌||◌, List, [], ◌∷◌, refl, ap, arith}
use Rattle.aio_listen.specs.declared.ticket.Ticket.{Ticket}
use Rattle.aio_listen.specs.Tickets.{same_ticket}
use Rattle.aio_listen.specs.Listening.{Entry, Listening, has_ticket, with_waker, without, SerialsRise}
use Rattle.aio_listen.proofs.TicketLemmas.{same_ticket-other}

or-parts : (a b : Bool) → (a || b) ≡ false → (a ≡ false) × (b ≡ false)
or-parts true b p = cc
or-parts false b p = (refl, p)

module _ {W : Type 0} where
  abbrev pub listed : List (Entry W) → ℕ → Listening W
  listed es drawn = record { entries = es; drawn = drawn }

  -- a list of rising serials starts no higher than it ends
  pub SerialsRise-le : (low : ℕ) (es : List (Entry W)) (drawn : ℕ) → SerialsRise low es drawn → low ≤ drawn
  SerialsRise-le low [] drawn h = h
  SerialsRise-le low (e ∷ es) drawn h = omega (arith, h.0, SerialsRise-le e.0.serial es drawn h.1)

  pub SerialsRise-lower : (low low' : ℕ) (es : List (Entry W)) (drawn : ℕ) → low' ≤ low → SerialsRise low es drawn → SerialsRise low' es drawn
  SerialsRise-lower low low' [] drawn le h = omega (arith, h)
  SerialsRise-lower low low' (e ∷ es) drawn le h = (omega (arith, h.0), h.1)

  -- no entry has a ticket whose serial is above what was drawn
  pub has_ticket-above : (low : ℕ) (es : List (Entry W)) (drawn : ℕ) (t : Ticket) → SerialsRise low es drawn → drawn < t.serial → has_ticket es t ≡ false
  has_ticket-above low [] drawn t h lt = refl
  has_ticket-above low (e ∷ es) drawn t h lt =
      let le : e.0.serial ≤ drawn = SerialsRise-le e.0.serial es drawn h.1 in
      let other : same_ticket e.0 t ≡ false = same_ticket-other e.0 t (omega arith) in
      let rest : has_ticket es t ≡ false = has_ticket-above e.0.serial es drawn t h.1 lt in
      rw (other, rest)

  -- where no entry has the ticket, a change of the entry that has it changes nothing
  pub with_waker-absent : (es : List (Entry W)) (t : Ticket) (w : W) → has_ticket es t ≡ false → with_waker es t w ≡ es
  with_waker-absent [] t w h = refl
  with_waker-absent (e ∷ es) t w h =
      let both = or-parts (same_ticket e.0 t) (has_ticket es t) h in
      rw (both.0, with_waker-absent es t w both.1)

  pub without-absent : (es : List (Entry W)) (t : Ticket) → has_ticket es t ≡ false → without es t ≡ es
  without-absent [] t h = refl
  without-absent (e ∷ es) t h =
      let both = or-parts (same_ticket e.0 t) (has_ticket es t) h in
      rw both.0 (ap (λ xs. e ∷ xs) (without-absent es t both.1))
