-- The look of a page, on screen and in print, without external resources.
use Rattle.std.specs.Prelude.{ℕ, List, ◌++◌, codes}

-- the style of a page
unfoldable pub style : List ℕ
style =
    codes "body { color: #000; background: #fff; font: 1rem/1.4 sans-serif; max-width: 68rem; margin: 1rem auto; padding: 0 1rem; }\n" ++ (
    codes "h1 { font-size: 2.2rem; line-height: 1.2; margin: .2rem 0 .4rem; }\n" ++ (
    codes "h2 { font-size: 1.2rem; margin: 1.4rem 0 .4rem; }\n" ++ (
    codes "h1, h2, caption, .key { break-after: avoid; }\n" ++ (
    codes "h1, p, li, th[scope=row], .stages th { overflow: hidden; overflow-wrap: anywhere; }\n" ++ (
    codes "ul { list-style: none; margin: 0; padding: 0; }\n" ++ (
    codes "table { border-collapse: separate; border-spacing: 0; border: solid #888; border-width: 0 1px 1px 0; }\n" ++ (
    codes "caption { text-align: left; font-weight: bold; padding: .6rem 0 .2rem; }\n" ++ (
    codes "th, td { border: solid #888; border-width: 1px 0 0 1px; padding: .15rem .35rem; vertical-align: top; text-align: right; font-variant-numeric: tabular-nums; }\n" ++ (
    codes "th { font-weight: normal; background: #fff; }\n" ++ (
    codes "th[scope=row], th:first-child { text-align: left; }\n" ++ (
    codes ".title { font-size: 1.2rem; margin: 0; }\n" ++ (
    codes ".running { display: none; }\n" ++ (
    codes ".declared strong { display: inline-block; border: 3px solid #000; padding: .1rem .8rem; font-size: 1.5rem; }\n" ++ (
    codes ".open { border: 2px dashed #000; padding: .4rem .6rem; }\n" ++ (
    codes ".names li { margin: .3rem 0; }\n" ++ (
    codes ".names b, .names .empty { font-size: 1.7rem; line-height: 1.2; }\n" ++ (
    codes ".names span { margin-left: .5rem; }\n" ++ (
    codes ".empty { font-style: italic; }\n" ++ (
    codes ".top { display: grid; grid-template-columns: 2fr 3fr; gap: 0 2rem; }\n" ++ (
    codes ".top table { width: 100%; }\n" ++ (
    codes ".top li { margin-bottom: .4rem; }\n" ++ (
    codes ".patterns { position: absolute; }\n" ++ (
    codes ".bar { display: block; width: 100%; height: 1rem; overflow: visible; forced-color-adjust: none; }\n" ++ (
    codes ".key .bar { display: inline-block; width: 1.6rem; height: .8rem; }\n" ++ (
    codes ".key span { display: inline-block; margin-right: 1rem; }\n" ++ (
    codes ".key:not(:has(+ .chart .elected)) .elected { display: none; }\n" ++ (
    codes ".key:not(:has(+ .chart .excluded)) .excluded { display: none; }\n" ++ (
    codes ".key:not(:has(+ .chart .neither)) .neither { display: none; }\n" ++ (
    codes ".key:not(:has(+ .chart .later:not([width=\"0%\"]))) .gained { display: none; }\n" ++ (
    codes ".bar .first { fill: #757575; }\n" ++ (
    codes ".elected .first { fill: #000; }\n" ++ (
    codes ".excluded .first { fill: #fff; stroke: #000; }\n" ++ (
    codes ".bar .later { fill: url(#later); stroke: #000; }\n" ++ (
    codes ".bar .quota { fill: #000; stroke: #fff; }\n" ++ (
    codes ".chart li { display: grid; grid-template-columns: minmax(12rem, 2fr) 2fr 10.5rem 17rem; gap: 0 .8rem; align-items: center; }\n" ++ (
    codes ".chart li { border-bottom: 1px solid #bbb; padding: .2rem 0; font-size: .9rem; break-inside: avoid; }\n" ++ (
    codes ".had { text-align: right; font-variant-numeric: tabular-nums; }\n" ++ (
    codes ".end { font-variant-numeric: tabular-nums; }\n" ++ (
    codes ".stages { font-size: .8rem; }\n" ++ (
    codes ".stages th[scope=row] { min-width: 8rem; }\n" ++ (
    codes ".stages th[scope=col] { min-width: 6.2rem; }\n" ++ (
    codes ".stages th:first-child { position: sticky; left: 0; border-right-width: 1px; }\n" ++ (
    codes ".sum th, .sum td { border-top-style: dashed; }\n" ++ (
    codes "td i, td b, td small { display: block; font-size: inherit; white-space: nowrap; }\n" ++ (
    codes "td small { color: #444; }\n" ++ (
    codes ".wide { overflow-x: auto; }\n" ++ (
    codes ".wards { max-width: none; }\n" ++ (
    codes ".index { width: 100%; font-size: 1.2rem; }\n" ++ (
    codes ".index th, .index td { text-align: left; padding: .4rem .6rem; }\n" ++ (
    codes ".sign p { border-bottom: 1px solid #000; max-width: 34rem; margin: 0; padding: 2.2rem 0 .1rem; }\n" ++ (
    codes "@media screen and (min-width: 100rem) {\n" ++ (
    codes ".index { font-size: 1.6rem; }\n" ++ (
    codes "}\n" ++ (
    codes "@media screen and (max-width: 50rem) {\n" ++ (
    codes ".top { display: block; }\n" ++ (
    codes ".chart li { grid-template-columns: 1fr auto; }\n" ++ (
    codes ".chart .bar { order: 1; grid-column: 1 / -1; }\n" ++ (
    codes ".chart .end { order: 2; grid-column: 1 / -1; }\n" ++ (
    codes ".stages th:first-child { max-width: 38vw; }\n" ++ (
    codes ".index, .index tbody, .index tr, .index td, .index th[scope=row] { display: block; border-width: 0; }\n" ++ (
    codes ".index thead { display: none; }\n" ++ (
    codes ".index tr { border-bottom: 1px solid #888; padding: .4rem 0; }\n" ++ (
    codes ".index td, .index th[scope=row] { padding: 0 .2rem; }\n" ++ (
    codes ".index th[scope=row] { font-weight: bold; }\n" ++ (
    codes ".index td:nth-child(2)::before { content: \"Seats: \"; }\n" ++ (
    codes "}\n" ++ (
    codes "@page { size: A4 landscape; margin: 10mm 12mm 14mm; }\n" ++ (
    codes "@page { @bottom-right { content: \"sheet \" counter(page) \" of \" counter(pages); font: 10pt sans-serif; } }\n" ++ (
    codes "@media print {\n" ++ (
    codes "html { font-size: 10pt; }\n" ++ (
    codes "body { display: table; table-layout: fixed; width: 100%; max-width: none; margin: 0; padding: 0; }\n" ++ (
    codes ".running { display: table-header-group; break-inside: avoid; }\n" ++ (
    codes ".running > bdi { float: right; }\n" ++ (
    codes ".wide { overflow: visible; break-inside: avoid; }\n" ++ (
    codes ".stages { width: 100%; line-height: 1.2; table-layout: fixed; }\n" ++ (
    codes ".stages th[scope] { min-width: 0; position: static; padding: 1pt 2pt; }\n" ++ (
    codes ".stages td { padding: 1pt 2pt; overflow-wrap: anywhere; }\n" ++ (
    codes ".stages th:first-child { width: 20%; }\n" ++ (
    codes "tr, .sign { break-inside: avoid; }\n" ++ (
    codes ".chart li { padding: 0; line-height: 1.25; }\n" ++ (
    codes ".bar { height: .8rem; }\n" ++ (
    codes "* { -webkit-print-color-adjust: exact; print-color-adjust: exact; }\n" ++ (
    codes "}\n")))))))))))))))))))))))))))))))))))))))))))))))))))))))))))))))))))))))))))))))))))

-- the pattern for the votes gained after the first stage, which all bars of a page share
unfoldable pub patterns : List ℕ
patterns =
    codes "<svg class=\"patterns\" width=\"0\" height=\"0\" aria-hidden=\"true\"><defs>" ++ (
    codes "<pattern id=\"later\" width=\"4\" height=\"4\" patternUnits=\"userSpaceOnUse\" patternTransform=\"rotate(45)\">" ++ (
    codes "<rect width=\"4\" height=\"4\" fill=\"#fff\"/>" ++ (
    codes "<rect width=\"1.6\" height=\"4\" fill=\"#000\"/></pattern></defs></svg>")))

-- the legend for the bars of a chart, up to the quota; the style hides what no bar shows
unfoldable pub legend : List ℕ
legend =
    codes "<p class=\"key\"><span class=\"elected\">" ++ (
    codes "<svg class=\"bar\" aria-hidden=\"true\">" ++ (
    codes "<rect class=\"first\" width=\"100%\" height=\"100%\"/></svg> votes at stage 1, elected</span> " ++ (
    codes "<span class=\"excluded\">" ++ (
    codes "<svg class=\"bar\" aria-hidden=\"true\">" ++ (
    codes "<rect class=\"first\" width=\"100%\" height=\"100%\"/></svg> votes at stage 1, excluded</span> " ++ (
    codes "<span class=\"neither\">" ++ (
    codes "<svg class=\"bar\" aria-hidden=\"true\">" ++ (
    codes "<rect class=\"first\" width=\"100%\" height=\"100%\"/></svg> votes at stage 1, neither</span> " ++ (
    codes "<span class=\"gained\">" ++ (
    codes "<svg class=\"bar\" aria-hidden=\"true\">" ++ (
    codes "<rect class=\"later\" width=\"100%\" height=\"100%\"/></svg> votes gained later</span> " ++ (
    codes "<span>" ++ (
    codes "<svg class=\"bar\" aria-hidden=\"true\">" ++ (
    codes "<rect class=\"quota\" x=\"45%\" width=\"3\" height=\"100%\"/></svg> the quota, "))))))))))))))
