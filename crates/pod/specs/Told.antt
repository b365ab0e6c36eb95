-- What the readers' answers tell of registers, beside what they read: the words that contracts say it with.
use Rattle.std.specs.Prelude.{Bool, true, ◌&&◌, ℕ}
use Rattle.fields.specs.Refusals.{crooked_register}
use Rattle.fields.specs.Lists.{choose}
use Rattle.fields.specs.Parse.{Res, ok, no, bind, Reader}

-- of a part without registers
abbrev pub no_register_in : {A : Type 0} → A → Bool
no_register_in a = true

-- of a part that is passed over: the offset past it, and whether what was read passes the test t, that its registers are sound
unfoldable pub judged : {A : Type 0} → Reader A → (A → Bool) → Reader Bool
judged p t s o = bind (p s o) (λ a n. ok (t a) n)

-- of two parts, one after the other: whether it is so of both
unfoldable pub judged_both : Res Bool → (ℕ → Res Bool) → Res Bool
judged_both r f = bind r (λ t n. bind (f n) (λ u m. ok (t && u) m))

-- an answer where registers are asked: 19 unless they are sound
unfoldable pub asked : {A : Type 0} → Bool → Res A → Res A
asked sound r = choose sound r (no crooked_register)
