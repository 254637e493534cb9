-- Host names and their parts between dots.
use Rattle.std.proofs.Common.{ℕ, ◌≤◌, ◌↔◌, List, length}
use Rattle.std.specs.List.{AllByRecursion}
use Rattle.strkw_text.specs.Abnf.{SeparatedBy}
use Rattle.strkw_text.proofs.AsciiForms.{DerivesAscii}
use Rattle.strkw_text.proofs.Separated.{separated_parts, SeparatedBy-weaker, SeparatedBy-at_least}
use Rattle.strkw_net.specs.HostName.{IsAsciiHostName, IsLabel}
use Rattle.strkw_net.proofs.HostNameLemmas.{parts, label_without_dot, IsAsciiHostName-ascii}
use Rattle.strkw_label.specs.HostName.{IsHostName, IsHostNameLabel}

-- each host name is an ASCII host name
pub ascii_host_name : (text : List ℕ) → IsHostName text → IsAsciiHostName text
ascii_host_name text w = record { labels = SeparatedBy-weaker 46 IsHostNameLabel IsLabel (λ x l. l.ascii) text w.labels; size = w.size }

-- host names are texts of ASCII characters
pub IsHostName-ascii : DerivesAscii IsHostName
IsHostName-ascii text w = IsAsciiHostName-ascii text (ascii_host_name text w)

-- a text is such labels with dots between them exactly where its parts between dots are
pub labels_by_parts : (bs : List ℕ) → SeparatedBy 46 IsHostNameLabel bs ↔ AllByRecursion IsHostNameLabel (parts bs)
labels_by_parts bs = separated_parts 46 IsHostNameLabel (λ x l. label_without_dot x l.ascii) bs

-- a host name has at least 1 and at most 253 characters
pub host_name_window : (text : List ℕ) → IsHostName text → (1 ≤ length text) × (length text ≤ 253)
host_name_window text w = (SeparatedBy-at_least 46 IsHostNameLabel 1 (λ x l. l.ascii.size.0) text w.labels, w.size)
