-- The invariant of the loop in `count_request`: the request so far, with the remaining words, is the whole request.
use Rattle.std.proofs.Common.{◌≡◌, Ok, map, drop, string_bytes}
use Rattle.checker.specs.Requests.{nothing_asked, with_words}
use Rattle.checker.specs.RequestViews.{words_told}
use Rattle.checker.proofs.requests.count_request.Given as goal

abbrev pub invariant-loop-word : goal.invariant-loop-word
invariant-loop-word l = with_words (Ok (words_told l.asked)) (map string_bytes (drop l.word-index l.words)) ≡ with_words (Ok nothing_asked) (map string_bytes l.words)
