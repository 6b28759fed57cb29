mod TellingRows
