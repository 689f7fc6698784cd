-- Sets of directions, one direction at a time.
use Rattle.std.proofs.Common.{◌≡◌, ◌&&◌, Bool, true, false, not, refl, sym, ap, ◌∙◌}
use Rattle.aio_base.specs.declared.names.Dir.{Dir}
use Rattle.aio_base.specs.declared.names.Interest.{Interest}
use Rattle.aio_base.specs.declared.names.TheConstants.Interest.{NONE}
use Rattle.aio_base.specs.World.{directions, except, has_any, has_dir}
use Rattle.aio_base.proofs.Membership.{any_from}
use Rattle.aio_base.proofs.DirectionLemmas.{each_direction, has_dir-where, none_has, same_interest}
use Rattle.aio_modes.specs.Interests.{common}

and-self : (a : Bool) → (a && a) ≡ a
and-self true = refl
and-self false = refl

and-again : (a b : Bool) → ((a && b) && a) ≡ (a && b)
and-again true true = refl
and-again true false = refl
and-again false b = refl

-- a direction is in both where it is in each
pub common_has : (a b : Interest) (dir : Dir) → has_dir (common a b) dir ≡ (has_dir a dir && has_dir b dir)
common_has a b dir = has_dir-where (λ d. has_dir a d && has_dir b d) dir

pub common_self : (on : Interest) → common on on ≡ on
common_self on = same_interest (common on on) on (λ dir. common_has on on dir ∙ and-self (has_dir on dir))

-- what is in both is in the first
pub common_within : (a b : Interest) → common (common a b) a ≡ common a b
common_within a b =
    same_interest (common (common a b) a) (common a b)
    (λ dir. common_has (common a b) a dir
    ∙ ap (λ (x : Bool). x && has_dir a dir) (common_has a b dir)
    ∙ and-again (has_dir a dir) (has_dir b dir)
    ∙ sym (common_has a b dir))

pub common_none : (on : Interest) → common NONE on ≡ NONE
common_none on = same_interest (common NONE on) NONE (λ dir. common_has NONE on dir ∙ ap (λ (x : Bool). x && has_dir on dir) (none_has dir) ∙ sym (none_has dir))

none-less : (a : Bool) → (not a && false) ≡ false
none-less true = refl
none-less false = refl

pub except_none : (on : Interest) → except NONE on ≡ NONE
except_none on =
    same_interest (except NONE on) NONE
    (λ dir. has_dir-where (λ d. not (has_dir on d) && has_dir NONE d) dir
    ∙ ap (λ (x : Bool). not (has_dir on dir) && x) (none_has dir)
    ∙ none-less (has_dir on dir)
    ∙ sym (none_has dir))

-- an interest that has a direction has any
pub some_direction : (on : Interest) (dir : Dir) → has_dir on dir ≡ true → has_any on ≡ true
some_direction on dir has = any_from (has_dir on) directions dir (each_direction dir) has
