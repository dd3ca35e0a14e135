-- The digest of a module's text (this project's own form).
use Rattle.std.specs.Prelude.{ℕ, List, ◌∷◌, ◌++◌}
use Rattle.sha2.specs.Sha256.{sha256}

-- the digest of the name of a main module, a zero byte, and the text (FIPS 180-4)
abbrev pub digest_of : (main text : List ℕ) → List ℕ
digest_of main text = sha256 (main ++ 0 ∷ text)
