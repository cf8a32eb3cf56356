mod CsvLines
mod RecordFields
