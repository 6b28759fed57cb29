mod PathsWritten
