-- Lemmas on what a connection tells, over several calls.
use Rattle.std.proofs.Common.{arith, ◌≡◌, ℕ, List, [], ◌∷◌, ◌++◌, length, Option, Some, None, refl, ap, ◌∙◌, append_assoc, append-nil, sym, subst}
use Rattle.std.specs.Prelude.{IfSome, IsTrue}
use Rattle.aio_base.specs.Connections.{Telling, Takes, Joins, IsAtItsEnd}

pub takes-nothing : (left : Option (List ℕ)) → Takes left left []
takes-nothing None = tt
takes-nothing (Some bytes) = refl

pub takes-both : (first second third : Option (List ℕ)) (bytes more : List ℕ) → Takes first second bytes → Takes second third more → Takes first third (bytes ++ more)
takes-both (Some x) (Some y) (Some z) bytes more one two = one ∙ ap (λ l. bytes ++ l) two ∙ sym (append_assoc bytes more z)
takes-both (Some x) (Some y) None bytes more one two = absurd two
takes-both (Some x) None third bytes more one two = absurd one
takes-both None (Some y) third bytes more one two = absurd one
takes-both None None (Some z) bytes more one two = absurd two
takes-both None None None bytes more one two = tt

pub sends-nothing : (sent : Option (List ℕ)) → Joins sent sent []
sends-nothing None = tt
sends-nothing (Some bytes) = sym (append-nil bytes)

both-none : (bytes more : List ℕ) → bytes ++ more ≡ [] → (bytes ≡ []) × (more ≡ [])
both-none [] more none = (refl, none)
both-none (byte ∷ bytes) more none = absurd (omega (arith, ap length none))

pub sends-both : (first second third : Option (List ℕ)) (bytes more : List ℕ) → Joins first second bytes → Joins second third more → Joins first third (bytes ++ more)
sends-both (Some x) (Some y) (Some z) bytes more one two = two ∙ ap (λ l. l ++ more) one ∙ append_assoc x bytes more
sends-both (Some x) (Some y) None bytes more one two = λ none. two (both-none bytes more none).1
sends-both (Some x) None (Some z) bytes more one two = absurd two
sends-both (Some x) None None bytes more one two = λ none. one (both-none bytes more none).0
sends-both None (Some y) third bytes more one two = absurd one
sends-both None None (Some z) bytes more one two = absurd two
sends-both None None None bytes more one two = tt

pub end-stays : (old new : Telling) → new.left ≡ old.left → new.ends ≡ old.ends → IsAtItsEnd old → IsAtItsEnd new
end-stays old new left ends is = subst (λ b. IfSome new.left (λ bytes. (bytes ≡ []) × IsTrue b)) (sym ends) (subst (λ l. IfSome l (λ bytes. (bytes ≡ []) × IsTrue old.ends)) (sym left) is)

-- a false history: a write of no byte that ceases to tell what was sent
no-byte-ceases : (sent : List ℕ) → ¬ (Joins (Some sent) None [])
no-byte-ceases sent joins = joins refl
