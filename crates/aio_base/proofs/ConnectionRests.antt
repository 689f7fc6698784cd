-- What is laid out in the rest of a connection is read off it again.
use Rattle.std.proofs.Common.{◌≡◌, ℕ, ◌==◌, Bool, true, false, List, [], ◌∷◌, Option, Some, None, refl, ap, sym, ◌∙◌}
use Rattle.std.proofs.Math.Seq.{take-append_seam, drop-append_seam}
use Rattle.aio_base.specs.Connections.{Telling, one_if, bytes_of, rest_of, sure_read, telling_read, untold}

-- a connection with two bytes left, which ends then and which sent one byte; and one that tells nothing
tells_all : rest_of true (record { left = Some (97 ∷ 98 ∷ []); ends = true; sent = Some (10 ∷ []); prompt = false })
    ≡ 1 ∷ 0 ∷ 1 ∷ 1 ∷ 1 ∷ 2 ∷ 97 ∷ 98 ∷ 10 ∷ []
tells_all = refl

tells_nothing : rest_of false untold ≡ 0 ∷ 0 ∷ 0 ∷ 0 ∷ 0 ∷ 0 ∷ []
tells_nothing = refl

flag_is_read : (b : Bool) → (one_if b == 1) ≡ b
flag_is_read true = refl
flag_is_read false = refl

pub reads_sure : (sure : Bool) (t : Telling) → sure_read (rest_of sure t) ≡ sure
reads_sure sure t = flag_is_read sure

left_is_read : (sure prompt : Bool) (left : Option (List ℕ)) (ends : Bool) (sent : Option (List ℕ))
    → (telling_read (rest_of sure (record { left = left; ends = ends; sent = sent; prompt = prompt }))).left ≡ left
left_is_read sure prompt None ends sent = refl
left_is_read sure prompt (Some bytes) ends sent = ap Some (take-append_seam bytes (bytes_of sent))

sent_is_read : (sure prompt : Bool) (left : Option (List ℕ)) (ends : Bool) (sent : Option (List ℕ))
    → (telling_read (rest_of sure (record { left = left; ends = ends; sent = sent; prompt = prompt }))).sent ≡ sent
sent_is_read sure prompt left ends None = refl
sent_is_read sure prompt left ends (Some bytes) = ap Some (drop-append_seam (bytes_of left) bytes)

abbrev telling_of : (left : Option (List ℕ)) (ends : Bool) (sent : Option (List ℕ)) (prompt : Bool) → Telling
telling_of left ends sent prompt = record { left = left; ends = ends; sent = sent; prompt = prompt }

all_alike : (left left_too : Option (List ℕ)) (ends ends_too : Bool) (sent sent_too : Option (List ℕ)) (prompt prompt_too : Bool)
    → left ≡ left_too → ends ≡ ends_too → sent ≡ sent_too → prompt ≡ prompt_too
    → telling_of left ends sent prompt ≡ telling_of left_too ends_too sent_too prompt_too
all_alike left left_too ends ends_too sent sent_too prompt prompt_too same_left same_ends same_sent same_prompt =
    ap (λ l. telling_of l ends sent prompt) same_left ∙ ap (λ e. telling_of left_too e sent prompt) same_ends
    ∙ ap (λ s. telling_of left_too ends_too s prompt) same_sent ∙ ap (λ p. telling_of left_too ends_too sent_too p) same_prompt

pub reads_telling : (sure : Bool) (t : Telling) → telling_read (rest_of sure t) ≡ t
reads_telling sure t =
    all_alike (telling_read (rest_of sure t)).left t.left (telling_read (rest_of sure t)).ends t.ends (telling_read (rest_of sure t)).sent t.sent
    (telling_read (rest_of sure t)).prompt t.prompt (left_is_read sure t.prompt t.left t.ends t.sent) (flag_is_read t.ends)
    (sent_is_read sure t.prompt t.left t.ends t.sent) (flag_is_read t.prompt)

-- connections of equal rest tell the same
pub equal_rests_tell_alike : (sure_a sure_b : Bool) (a b : Telling) (rest_a rest_b : List ℕ)
    → rest_a ≡ rest_of sure_a a → rest_b ≡ rest_of sure_b b → rest_b ≡ rest_a → b ≡ a
equal_rests_tell_alike sure_a sure_b a b rest_a rest_b is_a is_b alike =
    sym (reads_telling sure_b b) ∙ ap telling_read (sym is_b ∙ alike ∙ is_a) ∙ reads_telling sure_a a
