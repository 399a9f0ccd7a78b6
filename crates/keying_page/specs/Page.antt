-- The page on which a clerk keys. Its texts are built from the constants of this crate; the definitions specify how these are put together.
use Rattle.std.specs.Prelude.{List, ◌++◌, codes, ℕ}
use Rattle.keying_page.specs.Policies.{policy_of}
use Rattle.keying_page.specs.declared.markup.TheConstants.{BODY, HEAD, TAIL}
use Rattle.keying_page.specs.declared.script.batches.TheConstants.{BATCHES}
use Rattle.keying_page.specs.declared.script.drafts.TheConstants.{DRAFTS}
use Rattle.keying_page.specs.declared.script.events.TheConstants.{EVENTS}
use Rattle.keying_page.specs.declared.script.keys.TheConstants.{KEYS}
use Rattle.keying_page.specs.declared.script.reading.TheConstants.{READING}
use Rattle.keying_page.specs.declared.script.requests.TheConstants.{REQUESTS}
use Rattle.keying_page.specs.declared.script.rows.TheConstants.{ROWS}
use Rattle.keying_page.specs.declared.script.sending.TheConstants.{SENDING}
use Rattle.keying_page.specs.declared.script.keyboard.TheConstants.{VIEWS}
use Rattle.keying_page.specs.declared.stylesheet.TheConstants.{STYLE}

-- the script of the page: the declarations of its parts, and the last part, which starts it
unfoldable pub script : List ℕ
script = DRAFTS.now ++ (KEYS.now ++ (READING.now ++ (REQUESTS.now ++ (ROWS.now ++ (VIEWS.now ++ (SENDING.now ++ (BATCHES.now ++ EVENTS.now)))))))

-- the style of the page
abbrev pub style : List ℕ
style = STYLE.now

-- a page with one style and one script: the markup around the two
unfoldable pub page_of : List ℕ → List ℕ → List ℕ
page_of its_style its_script =
    HEAD.now
    ++ (codes "<style>" ++ (its_style ++ (codes "</style>"
    ++ (BODY.now
    ++ (codes "<script>" ++ (its_script ++ (codes "</script>"
    ++ TAIL.now)))))))

-- the page; its text is the same for every clerk
abbrev pub page_text : List ℕ
page_text = page_of style script

-- the policy of the page: it allows a browser to use the style and the script of the page
abbrev pub policy_text : List ℕ
policy_text = policy_of style script
