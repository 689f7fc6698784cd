-- The code of a link: 0 for none, else one above the key.
use Rattle.std.specs.Prelude.{ℕ, zero, suc, ◌≡◌, Option, None, Some, refl}
use Rattle.aio_listen.specs.declared.link.Link.TheInside.{Inside}

abbrev pub link_of_code : ℕ → Option ℕ
link_of_code zero = None
link_of_code (suc key) = Some key

abbrev pub code_of_link : Option ℕ → ℕ
code_of_link None = 0
code_of_link (Some key) = suc key

abbrev pub same_code : (code : ℕ) → code_of_link (link_of_code code) ≡ code
same_code zero = refl
same_code (suc key) = refl

-- the code is told by the link
abbrev pub same_inside : (l : Inside) → ◌≡◌ {A = Inside} (record { code = code_of_link (link_of_code l.code) }) l
same_inside l = λ i. record { code = same_code l.code i }
