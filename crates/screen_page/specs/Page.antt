-- The page for the screen in the hall, and its policy. Their texts are built from the constants of this crate; the definitions specify how these are put together.
use Rattle.std.specs.Prelude.{List, ◌++◌, codes, ℕ}
use Rattle.screen_page.specs.Policies.{policy_of}
use Rattle.screen_page.specs.declared.markup.TheConstants.{BODY, HEAD, TAIL}
use Rattle.screen_page.specs.declared.script.basics.TheConstants.{BASICS}
use Rattle.screen_page.specs.declared.script.chart.TheConstants.{CHART}
use Rattle.screen_page.specs.declared.script.events.TheConstants.{EVENTS}
use Rattle.screen_page.specs.declared.script.requests.TheConstants.{REQUESTS}
use Rattle.screen_page.specs.declared.script.sheets.TheConstants.{SHEETS}
use Rattle.screen_page.specs.declared.script.ties.TheConstants.{TIES}
use Rattle.screen_page.specs.declared.script.turns.TheConstants.{TURNS}
use Rattle.screen_page.specs.declared.script.views.TheConstants.{VIEWS}
use Rattle.screen_page.specs.declared.stylesheet.TheConstants.{STYLE}

-- the script of the page: the declarations of its parts, and the last part, which starts it
unfoldable pub script : List ℕ
script = BASICS.now ++ (SHEETS.now ++ (TIES.now ++ (REQUESTS.now ++ (TURNS.now ++ (CHART.now ++ (VIEWS.now ++ EVENTS.now))))))

-- the style of the page
abbrev pub style : List ℕ
style = STYLE.now

-- a page with one style and one script: the markup around the two
unfoldable pub page_of : List ℕ → List ℕ → List ℕ
page_of its_style its_script =
    HEAD.now
    ++ (codes "<style>" ++ (its_style ++ (codes "</style>"
    ++ (BODY.now
    ++ (codes "<script>" ++ (its_script ++ (codes "</script>"
    ++ TAIL.now)))))))

-- the page; its text is always the same
abbrev pub page_text : List ℕ
page_text = page_of style script

-- the policy of the page: it allows a browser to use the style and the script of the page
abbrev pub policy_text : List ℕ
policy_text = policy_of style script
