-- What stands at the end of a block of output, also where memory ran out.
use Rattle.std.specs.Prelude.{◌≡◌, ℕ, ◌+◌, ◌<◌, ◌≤◌, List, ◌++◌, length, Result, OnErr, OnOk, Vec, vec_capacity}

-- what was written before still stands at the front
pub record KeepsFront (old new : List ℕ) : Type 0 where
  pub added : List ℕ
  pub is : new ≡ old ++ added

-- with room for so many bytes there was none for this text behind these
abbrev pub LacksRoom : ℕ → List ℕ → List ℕ → Type 0
LacksRoom capacity held text = capacity < length held + length text

-- this text came behind what stood there, or memory ran out: there was no room for it, and maybe a part of it came
pub record Pushes {Z E : Type 0} (old new : Vec ℕ Z) (text : List ℕ) (told : Result (Unit {0}) E) : Type 0 where
  pub ok : OnOk told (new.items ≡ old.items ++ text)
  pub kept : OnErr told (KeepsFront old.items new.items)
  pub full : OnErr told (LacksRoom (vec_capacity old) old.items text)
  pub grown : vec_capacity old ≤ vec_capacity new
