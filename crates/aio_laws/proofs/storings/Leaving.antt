-- Storings that leave the places where they stood: which are left, and which went.
use Rattle.std.proofs.Common.{◌≡◌, ◌⊎◌, ℕ, true, false, not, List, [], ◌∷◌, ◌++◌, refl, ap, ◌∙◌, sym, subst, inl, inr, ⊎_elim, append_assoc, append-nil}
use Rattle.std.specs.List.{Contains}
use Rattle.std.proofs.lemmas.Bool.{cases_Bool, not_from_false}
use Rattle.std.proofs.lemmas.List.Elements.{Contains-append_left, Contains-append_right, Contains-append_cases}
use Rattle.aio_laws.specs.Storings.{Place, same_place, Stored, Storings, standing_at, none_at, given_up_at, taken_at, each_taken, each_given_up}
use Rattle.aio_laws.specs.Succession.{standing_in}
use Rattle.aio_base.proofs.Membership.{none_is_in, first_is_in, later_is_in, among_cases, filtered_is_in, filtered_passes, passing_is_kept}
use Rattle.aio_laws.proofs.storings.Places.{same_place-eq, same_place-from}

-- each storing of a list stays or goes, and those that go stood at places of this kind
pub record Leave (P : Place → Type 0) (before after gone : List Stored) : Type 0 where
  pub stays : (x : Stored) → Contains after x → Contains before x
  pub goes : (x : Stored) → Contains before x → Contains after x ⊎ Contains gone x
  pub from : (x : Stored) → Contains gone x → Contains before x × P x.place

pub none_leave : (P : Place → Type 0) (xs : List Stored) → Leave P xs xs []
none_leave P xs = record { stays = λ x here. here; goes = λ x here. inl here; from = λ x gone. none_is_in x gone }

stays_or_goes : (p : Place) (xs : List Stored) (x : Stored) → Contains xs x → Contains (none_at p xs) x ⊎ Contains (standing_at p xs) x
stays_or_goes p xs x here =
    ⊎_elim (λ (same : same_place p x.place ≡ true). inr (passing_is_kept (λ (s : Stored). same_place p s.place) xs x same here))
    (λ (other : same_place p x.place ≡ false).
    inl (passing_is_kept (λ (s : Stored). not (same_place p s.place)) xs x (not_from_false (same_place p x.place) other) here))
    (cases_Bool (same_place p x.place))

pub one_leaves : (P : Place → Type 0) (p : Place) → P p → (xs : List Stored) → Leave P xs (none_at p xs) (standing_at p xs)
one_leaves P p fits xs = record {
  stays = λ x here. filtered_is_in (λ (s : Stored). not (same_place p s.place)) xs x here;
  goes = stays_or_goes p xs;
  from = λ x gone. (
    filtered_is_in (λ (s : Stored). same_place p s.place) xs x gone,
    subst P (same_place-eq p x.place (filtered_passes (λ (s : Stored). same_place p s.place) xs x gone)) fits,
  );
}

pub leave_wider : (P Q : Place → Type 0) → ((p : Place) → P p → Q p) → (xs ys gone : List Stored) → Leave P xs ys gone → Leave Q xs ys gone
leave_wider P Q wider xs ys gone leave = record {
  stays = leave.stays;
  goes = leave.goes;
  from = λ x went. let at = leave.from x went in (at.0, wider x.place at.1);
}

-- one leaving after another
pub both_leave : (P : Place → Type 0) (xs ys zs gone more : List Stored) → Leave P xs ys gone → Leave P ys zs more → Leave P xs zs (gone ++ more)
both_leave P xs ys zs gone more first second = record {
  stays = λ x here. first.stays x (second.stays x here);
  goes = λ x here.
      ⊎_elim
      (λ (left : Contains ys x).
      ⊎_elim (λ (stays : Contains zs x). inl stays) (λ (goes : Contains more x). inr (Contains-append_right gone more x goes)) (second.goes x left))
      (λ (goes : Contains gone x). inr (Contains-append_left gone more x goes)) (first.goes x here);
  from = λ x went.
      ⊎_elim (λ (before : Contains gone x). first.from x before)
      (λ (later : Contains more x). let at = second.from x later in (first.stays x at.0, at.1)) (Contains-append_cases gone more x went);
}

-- ## What a round takes

-- what is left of some storings once nothing stands at these places
abbrev none_in : List Place → List Stored → List Stored
none_in [] stored = stored
none_in (p ∷ places) stored = none_in places (none_at p stored)

standing_after : (ps qs : List Place) (xs : List Stored) → standing_in ps xs ++ standing_in qs (none_in ps xs) ≡ standing_in (ps ++ qs) xs
standing_after [] qs xs = refl
standing_after (p ∷ ps) qs xs =
    append_assoc (standing_at p xs) (standing_in ps (none_at p xs)) (standing_in qs (none_in ps (none_at p xs)))
    ∙ ap (λ (more : List Stored). standing_at p xs ++ more) (standing_after ps qs (none_at p xs))

none_after : (ps qs : List Place) (xs : List Stored) → none_in qs (none_in ps xs) ≡ none_in (ps ++ qs) xs
none_after [] qs xs = refl
none_after (p ∷ ps) qs xs = none_after ps qs (none_at p xs)

-- what stands in these places stood there
pub stood_in : (ps : List Place) (xs : List Stored) (x : Stored) → Contains (standing_in ps xs) x → Contains xs x × Contains ps x.place
stood_in [] xs x nowhere = none_is_in x nowhere
stood_in (p ∷ ps) xs x among =
    ⊎_elim (λ (first : Contains (standing_at p xs) x). (one_leaves (Contains (p ∷ ps)) p (first_is_in p ps) xs).from x first)
    (λ (later : Contains (standing_in ps (none_at p xs)) x).
    let at = stood_in ps (none_at p xs) x later in
    (filtered_is_in (λ (s : Stored). not (same_place p s.place)) xs x at.0, later_is_in p ps x.place at.1))
    (Contains-append_cases (standing_at p xs) (standing_in ps (none_at p xs)) x among)

-- what stood at these places goes in their order, and nothing is left there; what was given, woken and given up stays
pub record Emptying (places : List Place) (l : Storings) (standing : List Stored) (count : ℕ) (wakings : List (List Stored)) (let_go : List Stored) : Type 0 where
  pub now : List Stored
  pub leave : Leave (Contains places) l.standing standing now
  pub emptied : (x : Stored) → Contains standing x → Contains places x.place → ⊥
  pub order : now ≡ standing_in places l.standing
  pub given : count ≡ l.given
  pub woken : wakings ≡ l.woken
  pub given_up : let_go ≡ l.given_up

abbrev pub Empties : List Place → Storings → Storings → Type 0
Empties places l m = Emptying places l m.standing m.given m.woken m.given_up

-- and it is taken
pub record Taking (places : List Place) (l m : Storings) : Type 0 where
  pub empties : Empties places l m
  pub open empties use *
  pub left : m.standing ≡ none_in places l.standing
  pub taken : m.taken ≡ l.taken ++ now
  pub waking : m.waking ≡ l.waking

pub none_taken : (l : Storings) → Taking [] l l
none_taken l = record {
  empties = record {
    now = [];
    leave = none_leave (Contains []) l.standing;
    emptied = λ x here nowhere. none_is_in x.place nowhere;
    order = refl;
    given = refl;
    woken = refl;
    given_up = refl;
  };
  left = refl;
  taken = sym (append-nil l.taken);
  waking = refl;
}

pub both_taken : (ps qs : List Place) (l m n : Storings) → Taking ps l m → Taking qs m n → Taking (ps ++ qs) l n
both_taken ps qs l m n first second = record {
  empties = record {
    now = first.now ++ second.now;
    leave = both_leave (Contains (ps ++ qs)) l.standing m.standing n.standing first.now second.now
        (leave_wider (Contains ps) (Contains (ps ++ qs)) (λ p among. Contains-append_left ps qs p among) l.standing m.standing first.now first.leave)
        (leave_wider (Contains qs) (Contains (ps ++ qs)) (λ p among. Contains-append_right ps qs p among) m.standing n.standing second.now second.leave);
    emptied = λ x here among.
        ⊎_elim (λ (front : Contains ps x.place). first.emptied x (second.leave.stays x here) front) (λ (later : Contains qs x.place). second.emptied x here later)
        (Contains-append_cases ps qs x.place among);
    order =
        ap (λ (front : List Stored). front ++ second.now) first.order
        ∙ ap (λ (more : List Stored). standing_in ps l.standing ++ more) (second.order ∙ ap (standing_in qs) first.left)
        ∙ standing_after ps qs l.standing;
    given = second.given ∙ first.given;
    woken = second.woken ∙ first.woken;
    given_up = second.given_up ∙ first.given_up;
  };
  left = second.left ∙ ap (none_in qs) first.left ∙ none_after ps qs l.standing;
  taken = second.taken ∙ ap (λ (front : List Stored). front ++ second.now) first.taken ∙ append_assoc l.taken first.now second.now;
  waking = second.waking ∙ first.waking;
}

pub emptied_place : (p : Place) (xs : List Stored) (x : Stored) → Contains (none_at p xs) x → Contains (p ∷ []) x.place → ⊥
emptied_place p xs x here among =
    let other = filtered_passes (λ (s : Stored). not (same_place p s.place)) xs x here in
    ⊎_elim (λ (same : p ≡ x.place). let there = same_place-from p x.place same in let wrong : false ≡ true = sym (ap not there) ∙ other in cc)
    (λ (nowhere : Contains [] x.place). none_is_in x.place nowhere) (among_cases p [] x.place among)

one_taken : (p : Place) (l : Storings) → Taking (p ∷ []) l (taken_at p l)
one_taken p l = record {
  empties = record {
    now = standing_at p l.standing;
    leave = one_leaves (Contains (p ∷ [])) p (first_is_in p []) l.standing;
    emptied = emptied_place p l.standing;
    order = sym (append-nil (standing_at p l.standing));
    given = refl;
    woken = refl;
    given_up = refl;
  };
  left = refl;
  taken = refl;
  waking = refl;
}

pub all_taken : (ps : List Place) (l : Storings) → Taking ps l (each_taken ps l)
all_taken [] l = none_taken l
all_taken (p ∷ ps) l = both_taken (p ∷ []) ps l (taken_at p l) (each_taken ps (taken_at p l)) (one_taken p l) (all_taken ps (taken_at p l))

-- ## What is given up

pub record GivingUp (P : Place → Type 0) (l m : Storings) : Type 0 where
  pub now : List Stored
  pub leave : Leave P l.standing m.standing now
  pub given_up : m.given_up ≡ l.given_up ++ now
  pub given : m.given ≡ l.given
  pub waking : m.waking ≡ l.waking
  pub woken : m.woken ≡ l.woken
  pub taken : m.taken ≡ l.taken

pub none_given_up : (P : Place → Type 0) (l : Storings) → GivingUp P l l
none_given_up P l = record {
  now = [];
  leave = none_leave P l.standing;
  given_up = sym (append-nil l.given_up);
  given = refl;
  waking = refl;
  woken = refl;
  taken = refl;
}

both_given_up : (P : Place → Type 0) (l m n : Storings) → GivingUp P l m → GivingUp P m n → GivingUp P l n
both_given_up P l m n first second = record {
  now = first.now ++ second.now;
  leave = both_leave P l.standing m.standing n.standing first.now second.now first.leave second.leave;
  given_up = second.given_up ∙ ap (λ (front : List Stored). front ++ second.now) first.given_up ∙ append_assoc l.given_up first.now second.now;
  given = second.given ∙ first.given;
  waking = second.waking ∙ first.waking;
  woken = second.woken ∙ first.woken;
  taken = second.taken ∙ first.taken;
}

pub one_given_up : (P : Place → Type 0) (p : Place) → P p → (l : Storings) → GivingUp P l (given_up_at p l)
one_given_up P p fits l = record {
  now = standing_at p l.standing;
  leave = one_leaves P p fits l.standing;
  given_up = refl;
  given = refl;
  waking = refl;
  woken = refl;
  taken = refl;
}

pub all_given_up : (P : Place → Type 0) (ps : List Place) → ((p : Place) → Contains ps p → P p) → (l : Storings) → GivingUp P l (each_given_up ps l)
all_given_up P [] fits l = none_given_up P l
all_given_up P (p ∷ ps) fits l =
    both_given_up P l (given_up_at p l) (each_given_up ps (given_up_at p l)) (one_given_up P p (fits p (first_is_in p ps)) l)
    (all_given_up P ps (λ q among. fits q (later_is_in p ps q among)) (given_up_at p l))
