-- Names of properties as the code holds them while they are read.
use Rattle.strkw_charset.specs.Properties.{Expression, alone, valued}
use Rattle.strkw_charset.specs.machine.PropertyReading.{PropertyPart, brace_awaited, in_braces}
use Rattle.strkw_charset.specs.machine.PropertyReading.{PropertyRead, no_property_read}
use Rattle.strkw_charset.specs.machine.PropertyReading.{property_goes, property_ends}
use Rattle.strkw_charset.specs.declared.properties.Expression.{Expression as CodeExpression}
use Rattle.strkw_charset.specs.declared.properties.Expression.TheVariants as code_expression
use Rattle.strkw_charset.specs.declared.properties.PropertyPart.{PropertyPart as CodePart}
use Rattle.strkw_charset.specs.declared.properties.PropertyPart.TheVariants as code_part
use Rattle.strkw_charset.specs.declared.properties.PropertyRead.{PropertyRead as CodeRead}
use Rattle.strkw_charset.specs.declared.properties.PropertyRead.TheVariants as code_read

abbrev pub expression_of : CodeExpression → Expression
expression_of (code_expression.Alone v) = alone v.items
expression_of (code_expression.Valued n v) = valued n.items v.items

abbrev pub part_of : CodePart → PropertyPart
part_of (code_part.BraceAwaited n) = brace_awaited n
part_of (code_part.InBraces n e) = in_braces n (expression_of e)

abbrev pub property_read_of : CodeRead → PropertyRead
property_read_of code_read.Fails = no_property_read
property_read_of (code_read.Goes k) = property_goes (part_of k)
property_read_of (code_read.Ends n e) = property_ends n (expression_of e)
