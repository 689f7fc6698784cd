-- The slots of a worker as woken tasks are queued one after the other.
use Rattle.std.proofs.Common.{◌≡◌, ℕ, zero, suc, ◌+◌, ◌<◌, List, [], ◌∷◌, ◌++◌, length, map, take, drop, set, get_or, take_all, drop-set-lt, append_assoc, append-nil, refl, sym, ap, ◌∙◌, subst, arith}
use Rattle.std.proofs.lemmas.List.{drop_more, take_more_set}
use Rattle.aio_turns.specs.Passes.{OwnView}
use Rattle.aio_work.specs.Slots.{QueuesIf, QueuesWoken, is_woken, let_go}
use Rattle.aio_work.specs.declared.slots.Held.{Held}

drop_whole : {X : Type 0} (xs : List X) → drop (length xs) xs ≡ []
drop_whole [] = refl
drop_whole (x ∷ xs) = drop_whole xs

-- The slots before this one were gone through: whatever comes of the others joins what came of those.
abbrev pub QueuedBefore : (mask i : ℕ) → List Held → OwnView → List Held → OwnView → Type 0
QueuedBefore mask i old own now by =
    (after : List Held) (left : OwnView) → QueuesWoken mask i (drop i now) by after left → QueuesWoken mask 0 old own (take i now ++ after) left

pub queued_further : (mask i : ℕ) (old : List Held) (own : OwnView) (now : List Held) (d new : Held) (by later : OwnView) → i < length now → QueuedBefore mask i old own now by
    → QueuesIf (is_woken mask i) (get_or now i d) by new later → QueuedBefore mask (i + 1) old own (set now i new) later
queued_further mask i old own now d new by later below so_far one = λ after left rest.
    let same : drop (i + 1) (set now i new) ≡ drop (i + 1) now = drop-set-lt (i + 1) now i new (omega arith) in
    let others : QueuesWoken mask (i + 1) (drop (i + 1) now) later after left = subst (λ l. QueuesWoken mask (i + 1) l later after left) same rest in
    let from : QueuesWoken mask i (drop i now) by (new ∷ after) left =
    subst (λ l. QueuesWoken mask i l by (new ∷ after) left) (sym (drop_more now i d below)) (later, one, others) in
    let joined : take (i + 1) (set now i new) ++ after ≡ take i now ++ new ∷ after =
    ap (λ l. l ++ after) (take_more_set now i new below) ∙ append_assoc (take i now) (new ∷ []) after in
    subst (λ l. QueuesWoken mask 0 old own l left) (sym joined) (so_far (new ∷ after) left from)

pub queued_all : (mask i : ℕ) (old : List Held) (own : OwnView) (now : List Held) (by : OwnView) → i ≡ length now → QueuedBefore mask i old own now by
    → QueuesWoken mask 0 old own now by
queued_all mask i old own now by all so_far =
    let none : drop i now ≡ [] = ap (λ k. drop k now) all ∙ drop_whole now in
    let whole : take i now ++ [] ≡ now = append-nil (take i now) ∙ take_all i now (omega arith) in
    subst (λ l. QueuesWoken mask 0 old own l by) whole (so_far [] by (subst (λ l. QueuesWoken mask i l by [] by) (sym none) refl))

-- the slots from this one on were not let go yet
abbrev pub LetGoBefore : ℕ → List Held → List Held → Type 0
LetGoBefore i old now = take i now ++ map let_go (drop i now) ≡ map let_go old

pub let_go_further : (i : ℕ) (old now : List Held) (d new : Held) → i < length now → new ≡ let_go (get_or now i d) → LetGoBefore i old now → LetGoBefore (i + 1) old (set now i new)
let_go_further i old now d new below is so_far =
    let rest : List Held = drop (i + 1) now in
    let same : drop (i + 1) (set now i new) ≡ rest = drop-set-lt (i + 1) now i new (omega arith) in
    ap (λ l. take (i + 1) (set now i new) ++ map let_go l) same
    ∙ ap (λ l. l ++ map let_go rest) (take_more_set now i new below)
    ∙ append_assoc (take i now) (new ∷ []) (map let_go rest)
    ∙ ap (λ h. take i now ++ h ∷ map let_go rest) is
    ∙ ap (λ l. take i now ++ map let_go l) (sym (drop_more now i d below))
    ∙ so_far

pub all_let_go : (i : ℕ) (old now : List Held) → i ≡ length now → LetGoBefore i old now → now ≡ map let_go old
all_let_go i old now all so_far =
    let none : drop i now ≡ [] = ap (λ k. drop k now) all ∙ drop_whole now in
    let whole : take i now ++ map let_go (drop i now) ≡ now = ap (λ l. take i now ++ map let_go l) none ∙ append-nil (take i now) ∙ take_all i now (omega arith) in
    sym whole ∙ so_far

-- the slots that a list has for its own, where others follow
pub own_front : {X : Type 0} (xs others : List X) (n : ℕ) → n ≡ length xs → take n (xs ++ others) ≡ xs
own_front [] others zero all = refl
own_front [] others (suc n) all = absurd (omega arith)
own_front (x ∷ xs) others zero all = absurd (omega arith)
own_front (x ∷ xs) others (suc n) all = ap (λ l. x ∷ l) (own_front xs others n (omega arith))
