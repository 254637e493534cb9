-- Why a document is not checked.
use Rattle.std.specs.Prelude.{◌≡◌, ℕ, List, None, IsUtf8, ⊤}
use Rattle.std.specs.declared.io.Error.{Error}
use Rattle.serde_json.specs.Read.{read as read_text}
use Rattle.neldrafi_table.specs.declared.faults.TableFault.{TableFault}
use Rattle.neldrafi_table.specs.declared.faults.TableFault.TheVariants as table
use Rattle.neldrafi_csv.specs.declared.faults.ReadFault.TheVariants as read
use Rattle.neldrafi_check.specs.declared.faults.CheckFault.{CheckFault}
use Rattle.neldrafi_check.specs.declared.faults.CheckFault.TheVariants as fault

-- a text has no value
abbrev pub IsWhyNoValue : List ℕ → CheckFault → Type 0
IsWhyNoValue text (fault.NotJson e) = read_text text ≡ None
IsWhyNoValue text fault.Memory = ⊤
IsWhyNoValue text _ = ⊥

-- The file with this text is not checked: it is not UTF-8, or not JSON. Of the device, of writing
-- and of memory nothing is said.
abbrev pub IsWhyUnread : List ℕ → CheckFault → Type 0
IsWhyUnread text (fault.Unread e) = ⊤
IsWhyUnread text fault.NotUtf8 = IsUtf8 text → ⊥
IsWhyUnread text (fault.NotJson e) = read_text text ≡ None
IsWhyUnread text (fault.Table why) = ⊥
IsWhyUnread text fault.TooLong = ⊥
IsWhyUnread text fault.Write = ⊤
IsWhyUnread text fault.Memory = ⊤

-- the fault that an error of the device is
abbrev pub GivesOfReading : Error → CheckFault → Type 0
GivesOfReading e (fault.Unread other) = other ≡ e
GivesOfReading e fault.Memory = ⊤
GivesOfReading e _ = ⊥

-- the fault that one of a table is
abbrev pub GivesOfTable : TableFault → CheckFault → Type 0
GivesOfTable why (fault.Unread e) = why ≡ table.Record (read.Read e)
GivesOfTable why (fault.Table other) = other ≡ why
GivesOfTable why fault.Memory = ⊤
GivesOfTable why _ = ⊥
