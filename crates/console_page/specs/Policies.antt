-- What a policy (`Content-Security-Policy`) allows a page to do in a browser.
use Rattle.std.specs.Prelude.{List, ◌++◌, codes, ℕ}
use Rattle.base64.specs.Engines.{standard}
use Rattle.base64.specs.GeneralPurpose.{encode_of}
use Rattle.sha2.specs.Sha256.{sha256}

-- the policy source that allows one text and no other: its SHA-256, in base64
unfoldable pub hash_source : List ℕ → List ℕ
hash_source text = codes "'sha256-" ++ (encode_of standard (sha256 text) ++ codes "'")

-- The policy of a page with one script and one style. The page runs only this script and uses only this style; it shows only images embedded in it,
-- and sends requests only to the server that it came from. It has no base address, submits no forms, can't be shown in a frame, and can't turn text
-- into markup.
unfoldable pub policy_of : List ℕ → List ℕ → List ℕ
policy_of style script =
    codes "default-src 'none'; script-src " ++ (hash_source script
    ++ (codes "; style-src " ++ (hash_source style
    ++ codes "; img-src data:; connect-src 'self'; base-uri 'none'; form-action 'none'; frame-ancestors 'none'; require-trusted-types-for 'script'; trusted-types 'none'")))
