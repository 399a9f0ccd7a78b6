-- What a browser lets a page do, by a policy (`Content-Security-Policy`).
use Rattle.std.specs.Prelude.{List, ◌++◌, codes, ℕ}
use Rattle.base64.specs.Engines.{standard}
use Rattle.base64.specs.GeneralPurpose.{encode_of}
use Rattle.sha2.specs.Sha256.{sha256}

-- how a policy names one text that may be used, and no other: by its SHA-256, in base64
unfoldable pub hash_source : List ℕ → List ℕ
hash_source text = codes "'sha256-" ++ (encode_of standard (sha256 text) ++ codes "'")

-- The policy of a page that has one script and one style. The page runs this script and uses this style; it shows images that are
-- written out in it, and requests nothing but from the server that it came from. It has no base address, sends no form, is shown in no
-- frame, and makes no markup of a text.
unfoldable pub policy_of : List ℕ → List ℕ → List ℕ
policy_of style script =
    codes "default-src 'none'; script-src " ++ (hash_source script
    ++ (codes "; style-src " ++ (hash_source style
    ++ codes "; img-src data:; connect-src 'self'; base-uri 'none'; form-action 'none'; frame-ancestors 'none'; require-trusted-types-for 'script'; trusted-types 'none'")))
